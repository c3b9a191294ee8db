use Rattle.nntp_kept.proofs.Base.{◌&&◌, not, true, list_any, option_map_or, matches_name, IsGroupName, Name, is_same, IsTrue, keys}
use Rattle.nntp_kept.proofs.groups.listed.first_unlisted.Given as goal

-- what is left are names of groups, and a name before it is listed, or doesn't match
abbrev pub invariant-loop-name : goal.invariant-loop-name
invariant-loop-name g l =
    (goal.iterator-loop-name g).can_next l.names × (goal.iterator-loop-name g).is_finite l.names
    × ((name : Name) → IsTrue (list_any (λ k. is_same k.items name) l.names) → IsTrue (list_any (λ k. is_same k.items name) (keys l.groups)))
    × ((name : Name) → IsTrue (list_any (λ k. is_same k.items name) (keys l.groups)) → IsGroupName name
    → IsTrue (option_map_or (λ w. matches_name w name) l.wildmat true && not (list_any (λ k. is_same k.now name) l.listed.keys)) → IsTrue (list_any (λ k. is_same k.items name) l.names))
