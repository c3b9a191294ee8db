use Rattle.nntp_several.proofs.{BadForGood.{settled_of_all}, SessionsRead.{outcome_at}}
use Rattle.nntp_several.proofs.laws.bad_answer_stays_whatever_follows.Goals as goal

pub returns : goal.returns
returns c = record { ended = outcome_at; settled = settled_of_all }
