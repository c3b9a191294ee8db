-- A spool permits a session exactly if each answer fits and all that the answers say holds of it.
use Rattle.nntp_wire.specs.{declared.marks.Marks.{Marks}, Answer.{Asked, Response}}
use Rattle.std.proofs.{Common.{◌≡◌, false, ◌↔◌, IsTrue, List, [], ◌∷◌, ◌++◌, arith}, lemmas.Bool.{and_parts, or_cases, eqb-true, true≢false}}
use Rattle.std.{proofs.lemmas.Bool.Decides.{nat_tests}, specs.List.{AllByRecursion}}
use Rattle.nntp_article.specs.{Session.{Spool.{Spool}, Machine.{Visible, Agrees, MayAnswer, visible_after, fits}}, declared.session.profile.Profile.{Profile}}
use Rattle.nntp_said.{proofs.Rows.{none_cases}, specs.{Inner.{Asks.{state_at, RunsAt}, Facts.{FitsAll}}, Asks.{position_after}}}
use Rattle.nntp_said.specs.{declared.position.Position.{Position}, Facts.{Holds, facts_of, facts_from}}

-- what holds of each element of two lists
pub all_both : {A : Type 0} (P : A → Type 0) (xs ys : List A) → AllByRecursion P xs → AllByRecursion P ys → AllByRecursion P (xs ++ ys)
all_both P [] ys h g = g
all_both P (x ∷ xs) ys h g = (h.0, all_both P xs ys h.1 g)

-- what holds of each element holds in the front
pub all_front : {A : Type 0} (P : A → Type 0) (xs ys : List A) → AllByRecursion P (xs ++ ys) → AllByRecursion P xs
all_front P [] ys h = tt
all_front P (x ∷ xs) ys h = (h.0, all_front P xs ys h.1)

-- what holds of each element holds in the back
pub all_back : {A : Type 0} (P : A → Type 0) (xs ys : List A) → AllByRecursion P (xs ++ ys) → AllByRecursion P ys
all_back P [] ys h = h
all_back P (x ∷ xs) ys h = all_back P xs ys h.1

-- ---- what an answer says

-- from that it agrees
facts_hold : (how : Marks) (S : Spool) (v : Visible) (at : Position) (p : Asked) (a : Response) → Agrees how S (state_at S v at) p a → AllByRecursion (Holds S) (facts_of how v at p a)
facts_hold how S v at p a h = grind (arith, eqb-true, none_cases)

-- and back, where it fits
agrees_from : (profile : Profile) (S : Spool) (v : Visible) (at : Position) (p : Asked) (a : Response) → IsTrue (fits profile v p a) → AllByRecursion (Holds S) (facts_of profile.marks v at p a)
    → Agrees profile.marks S (state_at S v at) p a
agrees_from profile S v at p a f h = grind (arith, and_parts, or_cases, eqb-true, none_cases, nat_tests, true≢false)

-- an answer that fits, where the connection is open, is permitted exactly if what it says holds
pub may_by_facts : (profile : Profile) (S : Spool) (v : Visible) (at : Position) (p : Asked) (a : Response) → v.closed ≡ false → IsTrue (fits profile v p a)
    → AllByRecursion (Holds S) (facts_of profile.marks v at p a) ↔ MayAnswer profile S (state_at S v at) p a
may_by_facts profile S v at p a is_open f = (λ h. record { is_open = is_open; fits_visible = f; agrees = agrees_from profile S v at p a f h }, λ may. facts_hold profile.marks S v at p a may.agrees)

-- a spool permits a session exactly if each answer fits and all that the answers say holds of it
pub permits_by_facts : (profile : Profile) (S : Spool) (v : Visible) (at : Position) (ps : List Asked) (answers : List Response)
    → RunsAt profile S v at ps answers ↔ (FitsAll profile v ps answers × AllByRecursion (Holds S) (facts_from profile.marks v at ps answers))
permits_by_facts profile S v at (p ∷ ps) (a ∷ more) =
    grind (arith, permits_by_facts profile S (visible_after v p a) (position_after at p a) ps more, facts_hold, agrees_from, all_both, all_front, all_back)
permits_by_facts profile S v at ps [] = grind arith
permits_by_facts profile S v at ps answers = grind arith
