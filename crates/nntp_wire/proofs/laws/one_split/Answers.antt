use Rattle.nntp_wire.proofs.StreamLemmas.{one-split}
use Rattle.nntp_wire.proofs.laws.one_split.Goals as goal

pub returns : goal.returns
returns c = one-split
