use Rattle.nntp_wire.proofs.MisspelledFrames.{misspelled-alone}
use Rattle.nntp_wire.proofs.laws.misspelled_alone_have_reasons.Goals as goal

pub returns : goal.returns
returns c = misspelled-alone
