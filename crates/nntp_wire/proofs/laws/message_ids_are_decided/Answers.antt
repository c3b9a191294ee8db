use Rattle.nntp_wire.proofs.DecidedLemmas.{message_id-iff}
use Rattle.nntp_wire.proofs.laws.message_ids_are_decided.Goals as goal

pub returns : goal.returns
returns c = message_id-iff
