use Rattle.nntp_kept.proofs.Base.{◌≡◌, ◌+◌, ◌≤◌, List, length, map, drop, ◌↔◌, AllByRecursion, active_value, Fact, Together, IsKept, LineJoins, shown_lines}
use Rattle.nntp_kept.proofs.kept.Kept.count_joining.Given as goal

-- all lines join if those do that are left, and so many of the others are of groups that are shown
abbrev pub invariant-loop-line : goal.invariant-loop-line
invariant-loop-line g l =
    (l.shown ≤ l.line-index)
    × ((facts : List Fact) → IsKept facts l.self → Together facts
    → (AllByRecursion (LineJoins facts) (map active_value (drop l.line-index l.groups)) ↔ AllByRecursion (LineJoins facts) (map active_value l.groups))
    × (l.shown + length (shown_lines facts (map active_value (drop l.line-index l.groups))) ≡ length (shown_lines facts (map active_value l.groups))))
