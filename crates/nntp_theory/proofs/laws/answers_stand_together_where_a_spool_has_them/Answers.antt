use Rattle.nntp_theory.proofs.Conflicts.{told_together, all_told, with_told, session_fits, session_told}
use Rattle.nntp_theory.proofs.laws.answers_stand_together_where_a_spool_has_them.Goals as goal

pub returns : goal.returns
returns c = search (told_together, all_told, with_told, session_fits, session_told)
