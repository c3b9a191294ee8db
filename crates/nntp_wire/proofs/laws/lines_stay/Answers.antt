use Rattle.nntp_wire.proofs.StreamLemmas.{lines-joined}
use Rattle.nntp_wire.proofs.laws.lines_stay.Goals as goal

pub returns : goal.returns
returns c = lines-joined
