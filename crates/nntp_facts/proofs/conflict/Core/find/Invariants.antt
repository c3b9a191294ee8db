use Rattle.nntp_facts.proofs.Base.{◌≤◌, length, map, profile_of, IsPartOfCore, stands_of}
use Rattle.nntp_facts.proofs.conflict.Core.find.Given as goal

abbrev pub invariant-loop-places : goal.invariant-loop-places
invariant-loop-places g l = IsPartOfCore (profile_of l.limit l.marks) (stands_of l.bad) (map stands_of l.answers) l.bound l.places.items
    × (l.bound ≤ length (map stands_of l.answers))
    × (length l.places.items ≤ l.most)

abbrev pub decreases-loop-places : goal.decreases-loop-places
decreases-loop-places g l = l.bound
