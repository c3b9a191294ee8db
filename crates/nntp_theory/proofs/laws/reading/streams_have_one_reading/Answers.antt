use Rattle.nntp_theory.{specs.Permitted.{ArePermitted}, proofs.Reading.OneReading.{some_reading, one_reading}}
use Rattle.nntp_theory.proofs.laws.reading.streams_have_one_reading.Goals as goal

pub returns : goal.returns
returns c = record { some = some_reading; one = λ profile. one_reading (ArePermitted profile) }
