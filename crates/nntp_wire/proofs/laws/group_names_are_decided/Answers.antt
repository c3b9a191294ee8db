use Rattle.nntp_wire.proofs.DecidedLemmas.{group_name-iff}
use Rattle.nntp_wire.proofs.laws.group_names_are_decided.Goals as goal

pub returns : goal.returns
returns c = group_name-iff
