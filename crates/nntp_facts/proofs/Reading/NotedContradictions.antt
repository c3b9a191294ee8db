-- What is noted to be a contradiction conflicts with the accepted answers.
use Rattle.nntp_facts.proofs.Base.{◌≡◌, ◌≤◌, List, [], ◌∷◌, ◌++◌, length, Some, refl, sym, ap, subst, ◌∙◌, arith, AllByRecursion, Asked, Response, Profile}
use Rattle.nntp_facts.proofs.Base.{Visible, start, Position, visible_after, Paired, asked_at, asked_of, responses_of, Nowhere, position_after, Contradiction}
use Rattle.nntp_facts.proofs.Base.{visible_from, position_from, FitsThere, exchanged, placed_behind, told_with, SomeHas, below, permits_alone, as_many, ends}
use Rattle.nntp_facts.{proofs.Base.{FactsKept}, specs.Inner.Noted.{HasNoted, IsNoted, IsDue}}
use Rattle.nntp_theory.{specs.{Classes.{asked_next}, Inner.Permits.{SomePermits}, Conflict.{placed_from, placed_of}}, proofs.Conflicts.{session_fits}}
use Rattle.nntp_theory.proofs.{Conflicts.{contradicts}, Given.GivenPermits.{said}, Session.LaterPrompts.{next_behind, visible_longer, position_longer}}
use Rattle.nntp_theory.proofs.Session.{LaterPrompts.{permitted_longer}, OneMoreAnswer.{as_few, fitting_grows}}

-- ---- one answer more, and more prompts

-- where there are no answers, none stands anywhere
none_placed : (v : Visible) (at : Position) (ps : List Asked) → placed_from v at ps [] ≡ []
none_placed v at [] = refl
none_placed v at (p ∷ ps) = refl

-- prompts behind those that are answered change nothing
placed_longer : (v : Visible) (at : Position) (ps qs : List Asked) (answers : List Response) → length answers ≤ length ps → placed_from v at (ps ++ qs) answers ≡ placed_from v at ps answers
placed_longer v at (p ∷ ps) qs (a ∷ more) le = grind (arith, placed_longer (visible_after v p a) (position_after at p a) ps qs more)
placed_longer v at [] qs (a ∷ more) le = absurd (omega arith)
placed_longer v at ps qs [] le = none_placed v at (ps ++ qs) ∙ sym (none_placed v at ps)

-- one answer more stands where those before leave the session
placed_grow : (v : Visible) (at : Position) (ps : List Asked) (answers : List Response) (asked : Asked) (response : Response) → asked_next ps answers ≡ Some asked
    → placed_from v at ps (answers ++ response ∷ []) ≡ placed_from v at ps answers
    ++ record { selected = (visible_from v ps answers).selected; position = position_from at ps answers; asked = asked; response = response } ∷ []
placed_grow v at (p ∷ ps) (a ∷ more) asked response e = grind (arith, placed_grow (visible_after v p a) (position_after at p a) ps more asked response e)
placed_grow v at ps answers asked response e = grind (arith, none_placed)

-- ---- exchanges

-- one exchange more
pub placed_next : (past : List Paired) (pair : Paired) → placed_of (past ++ pair ∷ []) ≡ placed_of past ++ placed_behind past pair ∷ []
placed_next past pair =
    let ps = asked_of past in
    let answers = responses_of past in
    let asked = asked_at pair.place in
    let few = as_few past in
    let grown = placed_grow start.visible Nowhere (ps ++ asked ∷ []) answers asked pair.response (next_behind ps [] asked answers (as_many past)) in
    grind (arith, ends past pair, grown, few, placed_longer, visible_longer, position_longer)

-- accepted answers fit where they stand
pub accepted_fit : (profile : Profile) (facts : FactsKept) (past : List Paired) → HasNoted profile facts past → AllByRecursion (FitsThere profile) (placed_of past)
accepted_fit profile facts past stands = grind (arith, session_fits, said)

-- a contradiction fits where it stands, and conflicts with them
pub noted_conflicts : (profile : Profile) (past : List Paired) (pair : Paired) (old new : FactsKept) → HasNoted profile old past → IsDue old pair
    → IsNoted profile past pair old new Contradiction
    → FitsThere profile (placed_behind past pair) × (SomeHas profile (told_with profile (placed_behind past pair) (placed_of past) (below (length (placed_of past)))) → ⊥)
noted_conflicts profile past pair old new stands due noted =
    let ps = asked_of past in
    let answers = responses_of past in
    let asked = asked_at pair.place in
    let qs = ps ++ asked ∷ [] in
    let few = as_few past in
    let comes = next_behind ps [] asked answers (as_many past) in
    let seen = visible_longer start.visible ps (asked ∷ []) answers few in
    let permitted = (permitted_longer profile ps (asked ∷ []) answers few).1 ((permits_alone profile (exchanged past)).0 stands.permitted) in
    let all = (fitting_grows profile start.visible qs answers asked pair.response comes).1
    (grind (arith, said profile permitted.0 qs answers permitted.2, seen, stands.visible, due.is_open, noted.0)) in
    let none = contradicts profile qs answers asked pair.response comes all (λ h. noted.1 ((permits_alone profile (exchanged (past ++ pair ∷ []))).1
    (subst (λ (q : List Asked × List Response). SomePermits profile q.0 q.1) (sym (ends past pair)) h))) in (
      (old.visible, ap (λ v. v.selected) stands.visible, noted.0),
      rw (placed_longer start.visible Nowhere ps (asked ∷ []) answers few, position_longer Nowhere ps (asked ∷ []) answers few, seen) at none,
    )
