use Rattle.nntp_facts.{proofs.Base.{List, ℕ, ◌++◌, map, AllByRecursion, profile_of, Placed, below, FitsThere, stands_of}, specs.Inner.Told.{AreToldWith}}
use Rattle.nntp_facts.proofs.conflict.search_refused.Given as goal

abbrev pub invariant-loop-place : goal.invariant-loop-place
invariant-loop-place g l = (bad : Placed) (places : List ℕ) → AllByRecursion (FitsThere (profile_of l.limit l.marks)) (map stands_of l.answers)
    → AreToldWith (profile_of l.limit l.marks) bad (map stands_of l.answers) places l.fn.kept
    → AreToldWith (profile_of l.limit l.marks) bad (map stands_of l.answers) (places ++ below l.place) l.kept
