use Rattle.nntp_wire.proofs.WordLemmas.{words_of-len}
use Rattle.nntp_wire.proofs.line.words.Goals as goal

pub returns-clause-len : goal.returns-clause-len
returns-clause-len c = rw c.new.ensures (words_of-len c.args.line.now)
