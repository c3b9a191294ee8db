-- What the visible condition says of the facts of an answer.
use Rattle.std.{proofs.{Common.{◌≡◌, ℕ, IsTrue, List, ◌∷◌, arith, ◌≤◌}, lemmas.Bool.{and_parts, or_cases, Decides.{nat_tests}}}, specs.Prelude.{⊤}}
use Rattle.std.specs.List.{AllByRecursion}
use Rattle.nntp_article.specs.Session.Machine.{Visible, visible_after, fits, is_article_number, head_fits, active_fits, overview_numbers}
use Rattle.nntp_article.specs.declared.session.profile.Profile.{Profile}
use Rattle.nntp_wire.specs.{Answer.{Asked, Response}, declared.range.Range.{Range}, Listing.{listed_numbers, active_groups}}
use Rattle.nntp_said.specs.{Asks.{position_after, Estimates, ListsIn, Has, StandsAt, StepsUp, StepsDown}, declared.position.Position.{Position}, Facts.{Fact}}
use Rattle.nntp_said.specs.{Facts.{Asks, IdAt, TextIs, FieldsAre, OverviewsAre, GroupsAre, facts_of, facts_from}, Inner.Facts.{FitsAll}}
use Rattle.nntp_said.proofs.Rows.{AreListed, Row, row, nothing, none_within, within, marks, listing, up, down, text, text_at, text_here, overview_at}
use Rattle.nntp_said.proofs.Rows.{overview_here, active}
use Rattle.nntp_theory.{specs.Inner.Together.{AgreesWithItself}, proofs.{Members.{all_both, all_from, each_of}, Together.ListedOverviews.{apart_agree}}}
use Rattle.nntp_theory.proofs.Together.ListedOverviews.{alone_agrees}

-- marks and numbers are within the limit, a low mark of 0 estimates no number, a text has the parts that were asked for, and listed groups match
abbrev pub IsFitting : Profile → Fact → Type 0
IsFitting profile (Asks name (Estimates how m)) = (m.high ≤ profile.limit) × (m.low ≡ 0 → m.estimate ≡ 0)
IsFitting profile (Asks name (ListsIn r ns)) = AllByRecursion (λ n. IsTrue (is_article_number profile.limit n)) ns
IsFitting profile (Asks name (Has n)) = IsTrue (is_article_number profile.limit n)
IsFitting profile (Asks name (StandsAt at n)) = IsTrue (is_article_number profile.limit n)
IsFitting profile (Asks name (StepsUp at n)) = IsTrue (is_article_number profile.limit n)
IsFitting profile (Asks name (StepsDown at n)) = IsTrue (is_article_number profile.limit n)
IsFitting profile (IdAt name n id) = IsTrue (is_article_number profile.limit n)
IsFitting profile (TextIs what id lines) = IsTrue (head_fits what id lines)
IsFitting profile (FieldsAre os) = AgreesWithItself (FieldsAre os)
IsFitting profile (OverviewsAre name r os) = AllByRecursion (λ n. IsTrue (is_article_number profile.limit n)) (overview_numbers os) × AgreesWithItself (OverviewsAre name r os)
IsFitting profile (GroupsAre p lines) = AllByRecursion (λ line. IsTrue (active_fits profile p line)) lines
IsFitting profile fact = ⊤

-- listed numbers are article numbers
listed_fitting : (profile : Profile) (range : Range) (ns : List ℕ) → AreListed profile range ns → AllByRecursion (λ n. IsTrue (is_article_number profile.limit n)) ns
listed_fitting profile range ns f = grind (arith, all_from, and_parts, each_of)

-- the facts of a row fit
row_fitting : (profile : Profile) (v : Visible) (at : Position) {F : Type 0} {a : Response} {facts : List Fact} → Row profile v at F a facts → F → AllByRecursion (IsFitting profile) facts
row_fitting profile v at (within range lines is) f = search (arith, is f, listed_fitting, apart_agree)
row_fitting profile v at (marks m name is) f = (tt, (grind (arith, and_parts, or_cases, nat_tests), tt))
row_fitting profile v at (listing m name range lines is) f = let k = is f in (tt, (grind (arith, and_parts, or_cases, nat_tests), (listed_fitting profile range (listed_numbers lines) k.1, tt)))
row_fitting profile v at (up s is) f = let k = is f in (k.1, (k.1, tt))
row_fitting profile v at (down s is) f = let k = is f in (k.1, (k.1, tt))
row_fitting profile v at (text what s is) f = (is f, tt)
row_fitting profile v at (text_at what s is) f = let k = is f in (k.0, (k.1.1, tt))
row_fitting profile v at (text_here what s is) f = let k = is f in (k.0, (k.1.1, (k.1.1, tt)))
row_fitting profile v at (overview_at lines o one is) f = (alone_agrees o, ((is f).1, tt))
row_fitting profile v at (overview_here lines o one is) f = let k = is f in (alone_agrees o, (k.1, (k.1, tt)))
row_fitting profile v at (active p lines is) f = (all_from _ (active_groups lines) (λ line. each_of (active_fits profile p) (active_groups lines) line (is f).0), tt)
row_fitting profile v at (none_within code range is) f = (tt, tt)
row_fitting profile v at (nothing a) f = tt
row_fitting profile v at other f = grind (arith, alone_agrees)

-- what an answer that fits says
pub answer_fitting : (profile : Profile) (v : Visible) (at : Position) (p : Asked) (a : Response) → IsTrue (fits profile v p a) → AllByRecursion (IsFitting profile) (facts_of profile.marks v at p a)
answer_fitting profile v at p a f = row_fitting profile v at (row profile v at p a) f

-- what answers that fit say, from any state on
pub from_fitting : (profile : Profile) (v : Visible) (at : Position) (ps : List Asked) (answers : List Response)
    → FitsAll profile v ps answers → AllByRecursion (IsFitting profile) (facts_from profile.marks v at ps answers)
from_fitting profile v at (p ∷ ps) (a ∷ more) f = grind (arith, all_both, answer_fitting, from_fitting profile (visible_after v p a) (position_after at p a) ps more f.2)
from_fitting profile v at ps answers f = tt
