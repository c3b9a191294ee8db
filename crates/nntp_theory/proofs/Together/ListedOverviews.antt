-- What overviews of a range give: an id at a number, a number for an id.
use Rattle.std.proofs.{Common.{◌≡◌, ℕ, cond, IsTrue, List, [], ◌∷◌, Option, Some, None, inl, refl, arith}, lemmas.Bool.{and_parts, eqb-true, not-true}}
use Rattle.std.specs.Cmp.Lexicographic.{same_text, nat_list_eq_equiv}
use Rattle.nntp_wire.specs.{Listing.{OverviewValue, Fields}, declared.range.Range.{Range}}
use Rattle.nntp_article.specs.{Article.Parts.{Id}, Session.{Spool.{Name}, Machine.{is_same, is_ascending, all_differ, overview_numbers, overview_ids}}}
use Rattle.nntp_said.specs.Facts.{FieldsAre, OverviewsAre}
use Rattle.nntp_theory.specs.{Given.{first_given, id_of_overview, id_in, fields_of_overview}, Together.{number_in}, Inner.Together.{TellsOwn, AgreesWithItself}}
use Rattle.nntp_theory.proofs.Members.{In, all_from, in_map, each_of, first_found, if_some}

-- ---- what is given, one of them has

-- an overview of the group that is at the number, with the id
pub record HasOverview (os : List OverviewValue) (g name : Name) (n : ℕ) (id : Id) : Type 0 where
  pub overview : OverviewValue
  pub there : In overview os
  pub same_group : g ≡ name
  pub same_number : overview.number ≡ n
  pub same_id : overview.id ≡ id

-- the id that they give at a number is that of one there
pub overview_at : (g name : Name) (range : Range) (os : List OverviewValue) (n : ℕ) (id : Id) → id_in name n (OverviewsAre g range os) ≡ Some id → HasOverview os g name n id
overview_at g name range os n id e = grind (arith, first_found, same_text, eqb-true)

-- and the number that they give for an id is that of one with it
pub overview_of : (g name : Name) (range : Range) (os : List OverviewValue) (id : Id) (n : ℕ) → number_in name id (OverviewsAre g range os) ≡ Some n → HasOverview os g name n id
overview_of g name range os id n e = grind (arith, first_found, same_text)

-- and what they tell of an id is what one with it tells
pub record TellsOf (os : List OverviewValue) (id : Id) (fields : Fields) : Type 0 where
  pub overview : OverviewValue
  pub there : In overview os
  pub same_id : overview.id ≡ id
  pub told : overview.told ≡ Some fields

pub told_by : (os : List OverviewValue) (id : Id) (fields : Fields) → first_given (fields_of_overview id) os ≡ Some fields → TellsOf os id fields
told_by os id fields e = grind (arith, first_found, same_text)

-- ---- what one of them has is given

-- where numbers ascend, the first overview at the number of one is that one
id_there : (os : List OverviewValue) (o : OverviewValue) → IsTrue (is_ascending (overview_numbers os)) → In o os → first_given (id_of_overview o.number) os ≡ Some o.id
id_there [] o up i = absurd i
id_there (p ∷ os) o up i = grind (arith, and_parts, each_of, in_map, id_there os o)

-- where ids differ, the first overview with the id of one is that one
own_there : {A : Type 0} (says : OverviewValue → Option A) (os : List OverviewValue) (o : OverviewValue) (x : A) → says o ≡ Some x → IsTrue (all_differ (overview_ids os))
    → In o os → first_given (λ p. cond (is_same p.id o.id) (says p) None) os ≡ Some x
own_there says [] o x is differ i = absurd i
own_there says (p ∷ os) o x is differ i = grind (arith, nat_list_eq_equiv.refl o.id, and_parts, each_of, in_map, not-true, own_there says os o x is)

own_fields : (os : List OverviewValue) (o : OverviewValue) → IsTrue (all_differ (overview_ids os)) → In o os → TellsOwn os o
own_fields os o differ i = if_some o.told _ (λ fields e. own_there (λ o. o.told) os o fields e differ i)

-- so each has its own number, its own id and its own fields
pub apart_agree : (name : Name) (range : Range) (os : List OverviewValue) → IsTrue (is_ascending (overview_numbers os)) → IsTrue (all_differ (overview_ids os))
    → AgreesWithItself (OverviewsAre name range os)
apart_agree name range os up differ = all_from _ os (λ o i. (id_there os o up i, own_there (λ o. Some o.number) os o o.number refl differ i, own_fields os o differ i))

-- and one overview alone its own fields
pub alone_agrees : (o : OverviewValue) → AgreesWithItself (FieldsAre (o ∷ []))
alone_agrees o = (own_fields (o ∷ []) o refl (inl refl), tt)
