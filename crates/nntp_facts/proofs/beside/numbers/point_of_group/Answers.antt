use Rattle.nntp_facts.proofs.Base.{◌++◌, ◌∷◌, [], sym, ◌∙◌, subst, append_assoc, Estimates, asks_of, AreKept, told, Lenient, widest, if_ok, AreBounded}
use Rattle.nntp_facts.proofs.PointsFound.NumbersBeside.{bounded_behind, bounded_widest}
use Rattle.nntp_facts.proofs.beside.numbers.point_of_group.Goals as goal

pub returns : goal.returns
returns g c = if_ok c.point_with.result (λ point found profile facts all asks limit kept says whole before.
    let asked = asks_of c.args.group.now.name.now facts in
    let wide = Estimates Lenient (widest profile) ∷ [] in
    let start = c.in_ok-numbers.ensures (told facts) (subst (AreKept (told facts)) (sym c.groups.ensures) kept.groups) in
    let middle = c.in_ok-add.ensures asked wide start (c.of_widest.ensures.says profile limit) in
    let together = sym (append_assoc asked wide asks) in
    found all (asked ++ wide) asks middle says (whole ∙ together)
    (subst AreBounded together (bounded_behind asked (wide ++ asks) (bounded_widest profile c.args.limit asks limit))) before) c.point_with.ensures
