use Rattle.nntp_facts.{proofs.Base.{[], ◌∷◌, map, take, AllByRecursion, IsKept, profile_of, FitsThere, stands_of}, specs.Inner.Told.{AreToldWith}}
use Rattle.nntp_facts.proofs.conflict.tell_all.Given as goal

abbrev pub invariant-loop-place : goal.invariant-loop-place
invariant-loop-place g l = IsKept [] l.fn.kept → AllByRecursion (FitsThere (profile_of l.limit l.marks)) (stands_of l.bad ∷ map stands_of l.answers)
    → AreToldWith (profile_of l.limit l.marks) (stands_of l.bad) (map stands_of l.answers) (take l.place-index l.places) l.kept
