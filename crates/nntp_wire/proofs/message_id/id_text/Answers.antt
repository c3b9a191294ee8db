use Rattle.std.proofs.Common.{arith}
use Rattle.nntp_wire.proofs.IdsAreText.{id_is_text}
use Rattle.nntp_wire.proofs.message_id.id_text.Goals as goal

pub unwrap-requires : goal.unwrap-requires
unwrap-requires c = grind (arith, id_is_text)
