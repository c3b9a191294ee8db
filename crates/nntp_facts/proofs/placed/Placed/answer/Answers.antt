use Rattle.nntp_theory.proofs.Together.WellFormed.{spelled_formed}
use Rattle.nntp_facts.proofs.placed.Placed.answer.Goals as goal

pub returns-clause-well_formed : goal.returns-clause-well_formed
returns-clause-well_formed c how v at = spelled_formed how v at _ _ _ c.answer.ensures.is_spelled.spells c.answer.ensures.is_spelled.octets
