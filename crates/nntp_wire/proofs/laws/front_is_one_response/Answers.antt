use Rattle.nntp_wire.proofs.SpellsDecided.{one-spelling}
use Rattle.nntp_wire.proofs.laws.front_is_one_response.Goals as goal

pub returns : goal.returns
returns c = one-spelling
