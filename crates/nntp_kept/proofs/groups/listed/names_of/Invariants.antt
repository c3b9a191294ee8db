use Rattle.nntp_kept.proofs.Base.{◌≡◌, ◌||◌, list_any, active_groups, Name, is_same, is_listed}
use Rattle.nntp_kept.proofs.groups.listed.names_of.Given as goal

abbrev pub invariant-loop-group : goal.invariant-loop-group
invariant-loop-group g l =
    (goal.iterator-loop-group g).can_next l.group-iterator × (goal.iterator-loop-group g).is_finite l.group-iterator
    × ((name : Name) → (list_any (λ k. is_same k.now name) l.names.keys || is_listed l.group-iterator name) ≡ is_listed (active_groups l.block) name)
