use Rattle.nntp_theory.proofs.Reading.FirstBadOfAReading.{first_bad, bad_at_octets}
use Rattle.nntp_theory.proofs.laws.reading.first_bad_answer_is_the_outcome.Goals as goal

pub returns : goal.returns
returns c = record { answer = first_bad; octets = bad_at_octets }
