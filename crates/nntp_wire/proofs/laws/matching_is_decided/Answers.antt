use Rattle.nntp_wire.proofs.DecidedLemmas.{matches_name-iff}
use Rattle.nntp_wire.proofs.laws.matching_is_decided.Goals as goal

pub returns : goal.returns
returns c = matches_name-iff
