-- Why a contradiction is bad: what is told of it and of a core, and that it stays so behind further accepted answers.
use Rattle.std.proofs.Common.{◌≡◌, ◌∙◌, ◌<◌, ◌≤◌, ◌⊎◌, ℕ, Bool, true, false, List, [], ◌∷◌, ◌++◌, Option, None, Some, MatchOption, is_some, length, refl, sym}
use Rattle.std.{proofs.{Common.{ap, subst, arith, map, append-nil}, lemmas.{List.{length-map, map-append}, Bool.{true≢false}}}, specs.Prelude.{⊤}}
use Rattle.std.specs.{List.{AllByRecursion, flat_map}, Option.{option_map_or}}
use Rattle.nntp_article.specs.{declared.session.profile.Profile.{Profile}, Session.Limit.{profile_of}}
use Rattle.nntp_wire.specs.declared.{limit.Limit.{Limit}, marks.Marks.{Marks}}
use Rattle.nntp_said.specs.Facts.{Fact}
use Rattle.nntp_facts.specs.{declared.placed.Placed.{Placed as Cited}, Standing.{stands_of}}
use Rattle.nntp_theory.specs.Conflict.{Placed, Point, Core, IsCore, IsEndOfCore, IsFound, IsFirstPoint, SomeHas, below, places_of, told, told_with}
use Rattle.nntp_theory.{specs.Inner.Conflict.{FitsThere, HasLast}, proofs.CoresGoOn.{in_front_of, AreThere, told_still, core_goes_on, places_there}}
use Rattle.nntp_theory.proofs.{CoresGoOn.{bound_there}, Members.{all_back}}
use Rattle.nntp_explain.specs.{Inner.ExplainingView.{Kept, HasReason, StandsAlone, TellsConflict, TellsContradiction, TellsSome}, Explaining.{IsConflictOf}}
use Rattle.nntp_explain.specs.{Reasons.{rest_line}, Says.{conflict_lines, first_part, reason_lines}}

-- ---- what is told

-- where the core is cut short, some of it was found
pub some_found : (core : Core) → MatchOption core.rest (length core.places ≤ 4) (λ bound. length core.places ≡ 4) → HasLast core
some_found core most = grind arith

module _ (k : Kept) (facts : List Fact) (bad : Placed) (text : List ℕ) (looked_for : Bool) where
  -- the reason of a contradiction that was told before
  pub told_again : TellsConflict k bad text → HasReason k bad → TellsContradiction looked_for k facts bad text
  told_again conflict before = grind arith

  -- of one whose answers are looked for, or that conflicts with itself
  pub told_whole : (looked_for ≡ true) ⊎ (StandsAlone k bad → ⊥) → TellsConflict k bad text → TellsContradiction looked_for k facts bad text
  told_whole why conflict = grind (arith, true≢false)

  -- of one whose answers aren't
  pub told_short : looked_for ≡ false → TellsSome k facts bad text → TellsContradiction looked_for k facts bad text
  told_short why is = grind (arith, true≢false)

-- a search by the same limit and marks, among the same answers
pub among : {limit kept : Limit} {marks strict : Marks} {answers accepted : List Cited} → limit ≡ kept → marks ≡ strict → answers ≡ accepted
    → ◌≡◌ {A = Profile × List Placed} (profile_of limit marks, map stands_of answers) (profile_of kept strict, map stands_of accepted)
among limit marks answers = λ i. (profile_of (limit i) (marks i), map stands_of (answers i))

-- so it may be made
pub searched : (bad : Placed) {limit kept : Limit} {marks strict : Marks} {answers accepted : List Cited} → limit ≡ kept → marks ≡ strict → answers ≡ accepted
    → AllByRecursion (FitsThere (profile_of kept strict)) (bad ∷ map stands_of accepted)
    → (SomeHas (profile_of kept strict) (told_with (profile_of kept strict) bad (map stands_of accepted) (below (length (map stands_of accepted)))) → ⊥)
    → AllByRecursion (FitsThere (profile_of limit marks)) (bad ∷ map stands_of answers)
    × (SomeHas (profile_of limit marks) (told_with (profile_of limit marks) bad (map stands_of answers) (below (length (map stands_of answers)))) → ⊥)
searched bad limit marks answers fit conflict =
    subst (λ (q : Profile × List Placed). AllByRecursion (FitsThere q.0) (bad ∷ q.1) × (SomeHas q.0 (told_with q.0 bad q.1 (below (length q.1))) → ⊥))
    (sym (among limit marks answers)) (fit, conflict)

-- whether a bad answer stands alone, by a search for no answer
pub alone_by : (profile : Profile) (bad : Placed) (answers : List Placed) (core : Core) → IsFound profile bad answers core
    → MatchOption core.rest (length core.places ≤ 0) (λ bound. length core.places ≡ 0)
    → (is_some core.rest ≡ true → SomeHas profile (told profile bad)) × (is_some core.rest ≡ false → SomeHas profile (told profile bad) → ⊥)
alone_by profile bad answers core is most = by core.rest core.places is.found most
  where
    none : (places : List ℕ) → length places ≤ 0 → told_with profile bad answers places ≡ told profile bad
    none [] few = append-nil (told profile bad)
    none (k ∷ places) few = absurd (omega (arith, few))

    by : (rest : Option ℕ) (places : List ℕ) → MatchOption rest (IsCore profile bad answers places) (λ bound. IsEndOfCore profile bad answers bound places)
        → MatchOption rest (length places ≤ 0) (λ bound. length places ≡ 0)
        → (is_some rest ≡ true → SomeHas profile (told profile bad)) × (is_some rest ≡ false → SomeHas profile (told profile bad) → ⊥)
    by None places core few = (λ e. absurd (true≢false (sym e)), λ e has. core.conflict (subst (SomeHas profile) (sym (none places few)) has))
    by (Some bound) places end few = (λ e. subst (SomeHas profile) (none places (omega (arith, few))) end.stand, λ e. absurd (true≢false e))

-- ---- behind further answers

module _ (here : ℕ) (how : Marks) (point : Point) (answers more : List Cited) where
  -- the head or body that the first of them sends
  first_still : (places : List ℕ) → AreThere answers places → first_part point (answers ++ more) places ≡ first_part point answers places
  first_still [] there = refl
  first_still (k ∷ places) there = search (in_front_of, first_still places there.1)

  -- each of them, and what it says
  reasons_still : (line : Option ℕ) (places : List ℕ) → AreThere answers places
      → flat_map (reason_lines here how line point (answers ++ more)) places ≡ flat_map (reason_lines here how line point answers) places
  reasons_still line [] there = refl
  reasons_still line (k ∷ places) there = search (in_front_of, reasons_still line places there.1)

  -- those below the bound
  rest_still : (rest : Option ℕ) → MatchOption rest ⊤ (λ bound. bound < length answers) → rest_line here (answers ++ more) rest ≡ rest_line here answers rest
  rest_still rest l = grind (arith, in_front_of)

  -- the whole text
  lines_still : (bad : Placed) (core : Core) → AreThere answers core.places → MatchOption core.rest ⊤ (λ bound. bound < length answers)
      → conflict_lines here how point bad (answers ++ more) core ≡ conflict_lines here how point bad answers core
  lines_still bad core there low = search (first_still, rest_still, reasons_still)

-- the reason of a contradiction stays what it is
pub reason_still : (here : ℕ) (profile : Profile) (bad : Placed) (answers more : List Cited) (text : List ℕ)
    → IsConflictOf here profile bad answers text → IsConflictOf here profile bad (answers ++ more) text
reason_still here profile bad answers more text (core, found, most, (point, first, text-is)) =
    let these = map stands_of answers in
    let those = map stands_of more in
    let joined = sym (map-append stands_of answers more) in
    let some = some_found core most in
    let all = places_there profile bad these those core some found in
    let low = bound core.rest core.places some found.found in (
      core,
      subst (λ all. IsFound profile bad all core) joined (core_goes_on profile bad these those core some found),
      most,
      (
        point,
        subst (λ facts. IsFirstPoint facts point) (sym (told_still profile bad these those (places_of core) all) ∙ ap (λ all. told_with profile bad all (places_of core)) joined) first,
        text-is ∙ sym (lines_still here profile.marks point answers more bad core (here_too core.places (own core.rest core.places all)) low),
      ),
    )
  where
    -- places of the ones are places of the others
    here_too : (places : List ℕ) → AreThere (map stands_of answers) places → AreThere answers places
    here_too places there = subst (λ n. AllByRecursion (λ k. k < n) places) (length-map answers stands_of) there

    bound : (rest : Option ℕ) (places : List ℕ) → MatchOption rest ⊤ (λ bound. 0 < length places)
        → MatchOption rest (IsCore profile bad (map stands_of answers) places) (λ bound. IsEndOfCore profile bad (map stands_of answers) bound places)
        → MatchOption rest ⊤ (λ bound. bound < length answers)
    bound None places some core = tt
    bound (Some n) places some end = subst (λ m. n < m) (length-map answers stands_of) (bound_there profile bad (map stands_of answers) (map stands_of more) n places some end)

    own : (rest : Option ℕ) (places : List ℕ) → AreThere (map stands_of answers) (option_map_or (λ bound. below bound ++ places) rest places) → AreThere (map stands_of answers) places
    own rest places all = grind (arith, all_back)
