use Rattle.nntp_theory.proofs.Conflicts.{group_holds, session_had, contradicts}
use Rattle.nntp_theory.proofs.laws.contradiction_conflicts_with_those_before.Goals as goal

pub returns : goal.returns
returns c = record { group = group_holds; session = session_had; bad = contradicts }
