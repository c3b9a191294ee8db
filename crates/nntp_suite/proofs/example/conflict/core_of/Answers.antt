use Rattle.std.proofs.Common.{List, length, map, sym, subst}
use Rattle.nntp_article.specs.Session.Limit.{profile_of}
use Rattle.nntp_theory.specs.Conflict.{SomeHas, told_with, below}
use Rattle.nntp_facts.specs.{declared.placed.Placed.{Placed}, Standing.{stands_of}}
use Rattle.nntp_suite.proofs.example.conflict.core_of.Goals as goal

pub find-requires-clause-conflict : goal.find-requires-clause-conflict
find-requires-clause-conflict c =
    subst (λ (answers : List Placed). SomeHas (profile_of c.args.limit c.args.marks) (told_with (profile_of c.args.limit c.args.marks) (stands_of c.args.found.now.bad)
    (map stands_of answers) (below (length (map stands_of answers)))) → ⊥)
    (sym c.deref.ensures.value) c.requires.conflict
