-- An id that is shown at a number has this number.
use Rattle.nntp_wire.{proofs.OptionLemmas.{some_is}, specs.Listing.{OverviewValue}}
use Rattle.std.{proofs.{Common.{◌≡◌, ℕ, IsTrue, List, Some, IsSome, arith}, lemmas.Bool.{eqb-true}}, specs.List.{AllByRecursion}}
use Rattle.nntp_article.specs.{Article.Parts.{Id}, Session.{Spool.{Name}, Machine.{overview_numbers}}}
use Rattle.nntp_said.specs.{Asks.{ListsIn, Has}, Facts.{Fact, OverviewsAre}}
use Rattle.nntp_theory.specs.{Given.{is_shown, asks_in, asks_of, first_given, id_in}, Together.{number_in, GiveOne}, Inner.Together.{AgreesWithItself}}
use Rattle.nntp_theory.proofs.{Members.{In, any_in, all_at, in_map, to_flat, first_found}, Together.ListedOverviews.{overview_at}}
use Rattle.nntp_theory.proofs.{Together.FactsOfASpoolStand.{same_itself}, Given.GivenHolds.{one_given}}

-- ---- of facts

-- where facts give an id, they show the number
pub shown_with_id : (facts : List Fact) (name : Name) (n : ℕ) → IsSome (first_given (id_in name n) facts) → IsTrue (is_shown (asks_of name facts) n)
shown_with_id facts name n t =
    let z = some_is (first_given (id_in name n) facts) t in
    let f = first_found (id_in name n) facts z.0 z.1 in
    by f.0 z.0 f.1 f.2
  where
    by : (fact : Fact) (id : Id) → In fact facts → id_in name n fact ≡ Some id → IsTrue (is_shown (asks_of name facts) n)
    by (OverviewsAre g r os) id i e =
        grind (arith, overview_at g name r os n id e, any_in, in_map (λ (o : OverviewValue). o.number), to_flat (asks_in name) (OverviewsAre g r os) (ListsIn r (overview_numbers os)) facts i)
    by fact id i e = grind (arith, any_in, to_flat (asks_in name) fact (Has n) facts i)

-- facts that stand together agree
pub agree_together : (facts : List Fact) (name : Name) (n : ℕ) (id : Id) → AllByRecursion AgreesWithItself facts → GiveOne (number_in name id) facts
    → first_given (id_in name n) facts ≡ Some id → first_given (number_in name id) facts ≡ Some n
agree_together facts name n id lists one e = grind (arith, first_found, one_given, same_itself, eqb-true, all_at)
