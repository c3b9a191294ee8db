use Rattle.nntp_theory.proofs.Together.WellFormed.{spelled_formed}
use Rattle.nntp_theory.proofs.laws.spelled_answers_are_well_formed.Goals as goal

pub returns : goal.returns
returns c = spelled_formed
