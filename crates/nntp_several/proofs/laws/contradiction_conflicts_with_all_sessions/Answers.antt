use Rattle.nntp_several.proofs.ConflictsOfSessions.{placed_next_behind, accepted_fit_behind, noted_conflicts_behind}
use Rattle.nntp_several.proofs.laws.contradiction_conflicts_with_all_sessions.Goals as goal

pub returns : goal.returns
returns c = record { next = placed_next_behind; accepted = accepted_fit_behind; contradiction = noted_conflicts_behind }
