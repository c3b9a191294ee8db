use Rattle.nntp_wire.proofs.SpellsDecided.{some-spelling}
use Rattle.nntp_wire.proofs.laws.spelling_is_decided.Goals as goal

pub returns : goal.returns
returns c = some-spelling
