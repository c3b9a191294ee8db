use Rattle.nntp_facts.proofs.Base.{get_or, rules, refl, ◌≡◌, ◌<◌, ◌^◌, ◌++◌, ◌∷◌, [], length, map, Some, sym, ap, subst, ◌∙◌, arith, length-map, length-append}
use Rattle.nntp_facts.proofs.Base.{slice_get-get_or, get_or-map, profile_of, AreHeld, stands_of, places_of, told_with, if_two}
use Rattle.nntp_facts.proofs.Keeping.HeldAnswers.{no_places, core_conflicts, held_alone, held_behind, last_there, others_stand, told_front}
use Rattle.nntp_facts.proofs.points.Conflict.of.Goals as goal

pub returns-in_default : goal.returns-in_default
returns-in_default g c =
    let profile = profile_of c.args.limit c.args.marks in
    let bad = stands_of c.args.bad.now in
    let answers = map stands_of c.args.answers.now in
    let core = c.args.core.now in
    let empty : length c.deref.result.now ≡ 0 = search rules in
    let places : places_of core ≡ [] = sym (c.deref.ensures.value ∙ c.in_ok-places.ensures) ∙ no_places c.deref.result.now empty in
    if_two c.with_last.result (λ conflict is few fits found last.
    subst (AreHeld profile (told_with profile bad answers (places_of core))) (sym is)
    (rw places (held_alone profile bad answers fits (rw places at (core_conflicts profile bad answers core found)) few _ refl c.new-kept.ensures refl)))
    c.with_last.ensures.held c.with_last.ensures.few

pub returns : goal.returns
returns g c =
    let profile = profile_of c.args.limit c.args.marks in
    let bad = stands_of c.args.bad.now in
    let answers = map stands_of c.args.answers.now in
    let core = c.args.core.now in
    let front = c.in-Some.others.now in
    let k = c.in-Some.place.now in
    let ends : c.deref.result.now ≡ front ++ k ∷ [] = search rules in
    let parts : places_of core ≡ front ++ k ∷ [] = sym (c.deref.ensures.value ∙ c.in_ok-places.ensures) ∙ ends in
    let small : length c.in_ok-places.places.items < 2 ^ 64 = search rules in
    let found_at : c.unwrap_or-last.result.now ≡ get_or c.args.answers.now k c.args.bad.now = search rules in
    let fewer : length front < 2 ^ 66 = omega (arith, small, ap length (sym c.deref.ensures.value ∙ ends), length-append front (k ∷ [])) in
    if_two c.with_last-2.result (λ conflict is few fits found last.
    let there = last_there profile bad answers core front k found last parts in
    let within = subst (λ n. k < n) (length-map c.args.answers.now stands_of) there in
    let here = slice_get-get_or answers k bad there ∙ ap (λ a. Some a) (get_or-map stands_of c.args.answers.now k c.args.bad.now bad within ∙ ap stands_of (sym found_at)) in
    let told = told_front profile bad answers front c.tell_all.new.kept c.in_ok-tell_all.field-0 (others_stand profile bad answers core front k found last parts)
    (c.in_ok-tell_all.ensures c.new-kept.ensures fits) in
    subst (AreHeld profile (told_with profile bad answers (places_of core))) (sym is)
    (rw parts (held_behind profile bad answers fits front k (rw parts at (core_conflicts profile bad answers core found)) (stands_of c.unwrap_or-last.result.now) here few fewer _ refl told refl)))
    c.with_last-2.ensures.held c.with_last-2.ensures.few
