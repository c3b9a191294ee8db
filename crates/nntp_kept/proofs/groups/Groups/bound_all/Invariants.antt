use Rattle.nntp_kept.proofs.Base.{ℕ, List, [], ◌∷◌, ◌++◌, map, take, Option, active_value, Fact, GroupsAre, AreKeptGroups}
use Rattle.nntp_kept.proofs.groups.Groups.bound_all.Given as goal

-- the lines so far are kept
abbrev pub invariant-loop-group : goal.invariant-loop-group
invariant-loop-group g l = (facts : List Fact) (wildmat : Option (List ℕ))
    → AreKeptGroups facts l.initial.self → AreKeptGroups (facts ++ GroupsAre wildmat (map active_value (take l.group-index l.groups)) ∷ []) l.self
