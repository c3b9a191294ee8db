use Rattle.nntp_facts.proofs.Base.{IsFalse, AllByRecursion, list_any, active_groups, Name, Fact, Together, denies_group, IsKept, is_listed, IsTrue, List}
use Rattle.nntp_facts.proofs.beside.groups.first_denied.Given as goal

-- what is left is listed, and no group before it is denied
abbrev pub invariant-loop-line : goal.invariant-loop-line
invariant-loop-line g l =
    (goal.iterator-loop-line g).can_next l.line-iterator × (goal.iterator-loop-line g).is_finite l.line-iterator
    × ((name : Name) → IsTrue (is_listed l.line-iterator name) → IsTrue (is_listed (active_groups l.block) name))
    × ((facts : List Fact) → IsKept facts l.kept → Together facts → AllByRecursion (λ line. IsFalse (list_any (denies_group line.name) facts)) l.line-iterator
    → AllByRecursion (λ line. IsFalse (list_any (denies_group line.name) facts)) (active_groups l.block))
