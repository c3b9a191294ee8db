use Rattle.nntp_theory.proofs.Reading.FirstBadOfAReading.{explained_good, good_explained}
use Rattle.nntp_theory.proofs.laws.reading.reading_without_bad_answers_is_explained.Goals as goal

pub returns : goal.returns
returns c profile client server answers ending reading = (good_explained profile client server answers ending reading, explained_good profile client server answers ending reading)
