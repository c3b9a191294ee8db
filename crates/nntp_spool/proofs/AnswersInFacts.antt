-- An answer, as the facts that it says, and facts that hold of a spool, one after the other.
use Rattle.std.proofs.Common.{arith, ◌≡◌, Bool, true, false, ◌↔◌, IsTrue, List, Option, None, Some, is_some, sym, subst, ◌∙◌, Result, Ok, Err, IfOk, [], ◌∷◌}
use Rattle.std.{proofs.{Common.{drop, IsSome}, lemmas.Bool.{true≢false}}, specs.{FinMap.{get}, List.{AllByRecursion}, Prelude.{slice_get, IfSome}}}
use Rattle.nntp_wire.specs.{Answer.{Asked, Response}, declared.command.What.{What, TheVariants.{Stat}}}
use Rattle.nntp_article.specs.{Article.Parts.{Id, Line}, Inner.{Listed.{Lists, lists_of}, MisfitView.{why_if}}, Session.Machine.{Visible, MayAnswer, fits}}
use Rattle.nntp_article.specs.{Session.{Misfit.{misfit}, Spool.{Spool}}, declared.session.{misfit.Misfit.{Misfit}, profile.Profile.{Profile}}}
use Rattle.nntp_article.proofs.SessionLemmas.Misfits.{fits_by_reason}
use Rattle.nntp_said.specs.{Facts.{Fact, Holds, facts_of, IdAt, TextIs}, Inner.{Asks.{state_at}, Places.{Place}}, declared.position.Position.{Position}}
use Rattle.nntp_said.proofs.{FactsHold.{may_by_facts}, Rows.{Row, row}}
use Rattle.nntp_content.specs.Inner.Content.{IdsHaveArticles}
use Rattle.nntp_spool.specs.Inner.Sessions.{SayThese}

-- ---- what fits

-- an answer fits where there is no reason against it
pub fitting : (profile : Profile) (v : Visible) (p : Asked) (a : Response) (why : Option Misfit) → why_if why ≡ misfit profile v p a → is_some why ≡ false → IsTrue (fits profile v p a)
fitting profile v p a None e none = sym (fits_by_reason profile v p a None e)
fitting profile v p a (Some why) e none = absurd (true≢false none)

-- and where there is one it doesn't
pub unfitting : (profile : Profile) (v : Visible) (p : Asked) (a : Response) (why : Option Misfit) → why_if why ≡ misfit profile v p a → is_some why ≡ true
    → IsTrue (fits profile v p a) → ⊥
unfitting profile v p a None e some f = true≢false (sym some)
unfitting profile v p a (Some why) e some f = true≢false (sym (fits_by_reason profile v p a (Some why) e ∙ f))

-- ---- what is listed

-- a row lists what its answer does
row_lists : {profile : Profile} {v : Visible} {at : Position} {Fits : Type 0} {a : Response} {facts : List Fact} → Row profile v at Fits a facts → Fits
    → SayThese (lists_of a) facts
row_lists r f = grind arith

-- the facts of an answer that fits say what it lists
pub facts_list : (profile : Profile) (v : Visible) (at : Position) (p : Asked) (a : Response) (listed : Lists) (facts : List Fact)
    → IsTrue (fits profile v p a) → listed ≡ lists_of a → facts ≡ facts_of profile.marks v at p a → SayThese listed facts
facts_list profile v at p a listed facts f ls fs = rw (ls, fs) (row_lists (row profile v at p a) f)

-- ---- what holds

-- an answer that fits is permitted exactly if all of this holds, which is what it says
pub permitted_where_held : {E : Type 0} (profile : Profile) (S : Spool) (v : Visible) (at : Position) (p : Asked) (a : Response) (facts : List Fact) (r : Result Bool E)
    → v.closed ≡ false → IsTrue (fits profile v p a) → facts ≡ facts_of profile.marks v at p a
    → IfOk r (λ hold. IsTrue hold ↔ AllByRecursion (Holds S) facts) → IfOk r (λ may. IsTrue may ↔ MayAnswer profile S (state_at S v at) p a)
permitted_where_held profile S v at p a facts (Ok hold) is_open f same h = grind (arith, may_by_facts)
permitted_where_held profile S v at p a facts (Err e) is_open f same h = tt

-- ---- facts that hold, one after the other

-- those that are left hold exactly if all do
pub record AreLeft (S : Spool) (listed : Lists) (facts left : List Fact) : Type 0 where
  pub same : AllByRecursion (Holds S) left ↔ AllByRecursion (Holds S) facts
  pub these : SayThese listed left

module _ (S : Spool) (listed : Lists) (facts : List Fact) where
  -- none is left, so all hold
  pub none_left : (left : List Fact) → AreLeft S listed facts left → None ≡ slice_get left 0 → AllByRecursion (Holds S) facts
  none_left [] are e = are.same.0 tt
  none_left (fact ∷ left) are e = absurd cc

  -- the first of them holds where those behind it do, so it may be passed
  pub first_passed : (left behind : List Fact) → AreLeft S listed facts left → behind ≡ drop 1 left
      → (AllByRecursion (Holds S) (drop 1 left) → AllByRecursion (Holds S) left) → AreLeft S listed facts behind
  first_passed left behind are e h = grind arith

-- it does where it holds by itself
pub first_held : (S : Spool) (fact : Fact) (left : List Fact) → Some fact ≡ slice_get left 0 → Holds S fact → AllByRecursion (Holds S) (drop 1 left) → AllByRecursion (Holds S) left
first_held S fact left e held h = grind arith

-- the first of them is what all are
pub first_is : (P : Fact → Type 0) (left : List Fact) (fact : Fact) → Some fact ≡ slice_get left 0 → AllByRecursion P left → P fact
first_is P [] fact e h = absurd cc
first_is P (first ∷ left) fact e h = subst (λ (o : Option Fact). IfSome o P) (sym e) h.0

-- an id that stands at a number has an article
placed_has : (S : Spool) (id : Id) (facts : List Fact) → IdsHaveArticles S → Place id facts → AllByRecursion (Holds S) facts → IsSome (get S.articles id)
placed_has S id [] ids place h = elim place [ ]
placed_has S id (IdAt name n other ∷ facts) ids place h = grind (arith, placed_has S id facts ids)
placed_has S id (fact ∷ facts) ids place h = placed_has S id facts ids place h.1

-- and nothing is sent of it
placed_text : (S : Spool) (id : Id) (facts : List Fact) → IdsHaveArticles S → Place id facts → AllByRecursion (Holds S) facts → Holds S (TextIs Stat id None)
placed_text S id facts ids place h = let has = placed_has S id facts ids place h in grind arith

-- so the first of the facts holds where it says this, and one behind it gives the id at a number
pub first_implied : (S : Spool) (what : What) (id : Id) (lines : Option (List Line)) (facts : List Fact) → Some (TextIs what id lines) ≡ slice_get facts 0
    → what ≡ Stat → lines ≡ None → Place id facts → IdsHaveArticles S → AllByRecursion (Holds S) (drop 1 facts) → AllByRecursion (Holds S) facts
first_implied S what id lines [] first stat nothing place ids h = elim place [ ]
first_implied S what id lines (fact ∷ facts) first stat nothing place ids h = grind (arith, placed_text)
