use Rattle.nntp_theory.proofs.Session.OneMoreAnswer.{facts_grow, fitting_grows, visible_grows, position_grows}
use Rattle.nntp_theory.proofs.laws.answers_add_up.Goals as goal

pub returns : goal.returns
returns c = record { facts = facts_grow; fitting = fitting_grows; visible = visible_grows; position = position_grows }
