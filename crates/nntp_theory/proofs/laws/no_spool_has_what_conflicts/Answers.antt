use Rattle.nntp_theory.proofs.{PointsOfConflict.{point_of_conflict}, Together.FactsOfASpoolStand.{stand}, Conflicts.{at_point}}
use Rattle.nntp_theory.proofs.laws.no_spool_has_what_conflicts.Goals as goal

pub returns : goal.returns
returns c = record { none = λ profile facts point h s. at_point facts point h (stand profile.limit s.0 facts s.1 s.2); point = point_of_conflict }
