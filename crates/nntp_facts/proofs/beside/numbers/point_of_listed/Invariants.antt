use Rattle.nntp_facts.proofs.Base.{◌≡◌, ◌++◌, ◌∷◌, [], List, AllByRecursion, active_groups, Bounds, Fact, asks_of, IsKept, Point, NoneBefore, rank_of_numbers}
use Rattle.nntp_facts.{proofs.Base.{rank, ConflictAt}, specs.Inner.Points.{IsAbout}}
use Rattle.nntp_facts.proofs.beside.numbers.point_of_listed.Given as goal

-- what is left are bounds of the groups that are listed, and of those before it none is a point
abbrev pub invariant-loop-line : goal.invariant-loop-line
invariant-loop-line g l =
    (goal.iterator-loop-line g).can_next l.line-iterator × (goal.iterator-loop-line g).is_finite l.line-iterator
    × ((facts all : List Fact) → AllByRecursion (λ line. asks_of line.name all ≡ asks_of line.name facts ++ Bounds line.low line.high ∷ []) (active_groups l.block)
    → AllByRecursion (λ line. asks_of line.name all ≡ asks_of line.name facts ++ Bounds line.low line.high ∷ []) l.line-iterator)
    × ((facts all : List Fact) → IsKept facts l.kept → AllByRecursion (λ line. asks_of line.name all ≡ asks_of line.name facts ++ Bounds line.low line.high ∷ []) (active_groups l.block)
    → NoneBefore all (rank_of_numbers l.kind) → AllByRecursion (λ line. (other : Point) → rank other ≡ rank_of_numbers l.kind → IsAbout line.name other → ¬ (ConflictAt all other)) l.line-iterator
    → AllByRecursion (λ line. (other : Point) → rank other ≡ rank_of_numbers l.kind → IsAbout line.name other → ¬ (ConflictAt all other)) (active_groups l.block))
