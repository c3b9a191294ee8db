use Rattle.nntp_kept.proofs.Base.{List, map, drop, ◌↔◌, AllByRecursion, overview_value, Fact, IsKept, OverviewJoins}
use Rattle.nntp_kept.proofs.kept.Kept.may_give_all.Given as goal

-- all overviews join if those do that are left
abbrev pub invariant-loop-overview : goal.invariant-loop-overview
invariant-loop-overview g l = (facts : List Fact) → IsKept facts l.self
    → AllByRecursion (OverviewJoins facts l.name) (map overview_value (drop l.overview-index l.overviews)) ↔ AllByRecursion (OverviewJoins facts l.name) (map overview_value l.overviews)
