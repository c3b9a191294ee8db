use Rattle.std.proofs.lemmas.Grind.{common_steps}
use Rattle.nntp_facts.proofs.Base.{◌≡◌, ◌∙◌, ◌++◌, ap, arith, ℕ, List, Option, unwrap_or, option_map_or, below, places_of}
use Rattle.nntp_facts.proofs.conflict.Core.all_places.Goals as goal

-- the places below the bound, where there is one, and those that were found
all_told : (rest : Option ℕ) (n : ℕ) (front places : List ℕ) → n ≡ unwrap_or rest 0 → front ≡ below n → front ++ places ≡ option_map_or (λ bound. below bound ++ places) rest places
all_told rest n front places e f = grind arith

pub returns : goal.returns
returns g c =
    let end : c.loop-place.place ≡ c.unwrap_or-place-end.result = omega (arith, c.loop-place-test.false, c.loop-place.auto.place-end) in
    c.in_ok-extend_from_slice.ensures.items ∙ ap (λ these. c.loop-place.all.items ++ these) c.deref.ensures.value
    ∙ all_told c.self.inside.rest c.loop-place.place c.loop-place.all.items c.self.inside.places.items (end ∙ c.unwrap_or-place-end.ensures) c.loop-place.invariant
    ∙ ap places_of c.self.view_is

pub loop-place-preserved : goal.loop-place-preserved
loop-place-preserved g c = grind (arith, common_steps)
