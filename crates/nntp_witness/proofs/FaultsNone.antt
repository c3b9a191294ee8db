-- What the given spool has is added to a part of it without a fault.
use Rattle.std.proofs.Common.{arith, ◌≡◌, ℕ, true, false, List, [], ◌∷◌, Option, None, Some, is_some, refl, sym, ap, subst, ◌∙◌, ap₂}
use Rattle.std.{proofs.lemmas.{Bool.{true≢false, false_from_ne_true, or_left, or_right}, Slice.Eq.{bytes_eq-Decides}}, specs.Prelude.{unwrap_or, option_map}}
use Rattle.std.specs.{Prelude.{IsFalse, bytes_eq}, List.{list_all}, Cmp.{nat_cmp_total}, FinMap.{get, entries, nat_cmp-IsAntisymmetric}}
use Rattle.nntp_wire.specs.{Decided.{is_group_name, is_message_id}, Limit.{greatest}, Listing.{OverviewValue, Fields}, declared.limit.Limit.{Limit}}
use Rattle.nntp_wire.proofs.OptionLemmas.{some_is}
use Rattle.nntp_article.specs.{Article.{Parts.{Id, Line}, Fields.{fields_of_head, plain_head, made_head}}, Session.{Machine.{is_article_number}, Spool.{Spool}}}
use Rattle.nntp_article.specs.Session.Spool.{Name, Numbers, Text, IsGroup, IsSpool, numbers, is_line}
use Rattle.nntp_said.specs.Facts.{Fact, FieldsAre, OverviewsAre}
use Rattle.nntp_theory.specs.Given.{mentions, is_mentioned, has_overview_of, first_given, head_in, fields_of_overview, fields_in, body_in, IsGiven}
use Rattle.nntp_theory.proofs.{Maps.{in_get}, Members.{found_in}, Given.GivenHolds.{group_of_number}}
use Rattle.nntp_kept_articles.proofs.SaidOfArticles.{head_of_text, body_of_text}
use Rattle.nntp_content.specs.{Content.{is_head_of}, Numbers.{has_id}}
use Rattle.nntp_store.{specs.Inner.Building.{group_fault, number_fault, article_fault}, proofs.WholeSpools.{content_of_spool}}
use Rattle.nntp_witness.specs.Inner.Making.{IsPart}

-- ---- faults by their tests

-- a group with a name, that isn't there
no_group_fault : (S : Spool) (name : Name) → is_group_name name ≡ true → get S.groups name ≡ None → group_fault S name ≡ None
no_group_fault S name is absent = cc

-- a number and an id that may be, and aren't there
no_number_fault : (limit : ℕ) (S : Spool) (name : Name) (n : ℕ) (id : Id) → IsGroup S name → is_article_number limit n ≡ true
    → is_message_id id ≡ true → get (numbers S name) n ≡ None → has_id (numbers S name) id ≡ false
    → number_fault limit S name n id ≡ None
no_number_fault limit S name n id there num is_id absent fresh = cc

-- an article that may be, and isn't there
no_article_fault : (S : Spool) (id : Id) (t : Text) → is_message_id id ≡ true → list_all is_line t.head ≡ true → is_head_of id t.head ≡ true → list_all is_line t.body ≡ true → get S.articles id ≡ None
    → article_fault S id t ≡ None
no_article_fault S id t is_id lines head body absent = cc

-- ---- what the spool has

-- an id that stands at no number
no_id : (N : Numbers) (id : Id) → ((m : ℕ) → get N m ≡ Some id → ⊥) → has_id N id ≡ false
no_id N id nowhere = false_from_ne_true (has_id N id) (λ t.
    let f = found_in (λ e. bytes_eq e.1 id) (entries N) t in
    let same : f.0.1 ≡ id = (bytes_eq-Decides f.0.1 id).0 f.2 in
    nowhere f.0.0 (in_get nat_cmp_total nat_cmp-IsAntisymmetric N f.0.0 f.0.1 f.1 ∙ ap Some same))

none_some : {A : Type 0} (x : A) → None ≡ Some x → ⊥
none_some x e = cc

module _ (limit : Limit) (facts : List Fact) (G S : Spool) (is_spool : IsSpool (greatest limit) G) (part : IsPart facts G S) where
  -- a group of the spool is added
  pub group_fits : (name : Name) → IsGroup G name → get S.groups name ≡ None → group_fault S name ≡ None
  group_fits name there absent =
      let N = some_is (get G.groups name) there in
      no_group_fault S name ((content_of_spool (greatest limit) G is_spool).groups name N.0 N.1).is_name absent

  -- a number of the spool is added, with its id
  pub number_fits : (name : Name) (n : ℕ) (id : Id) → IsGroup S name → get (numbers G name) n ≡ Some id → get (numbers S name) n ≡ None → number_fault (greatest limit) S name n id ≡ None
  number_fits name n id there at absent =
      let g = group_of_number G name n (ap is_some at) in
      let are = ((content_of_spool (greatest limit) G is_spool).groups name g.0 g.1).numbers in
      let may = are.each n id (subst (λ (N : Numbers). get N n ≡ Some id) g.2 at) in
      no_number_fault (greatest limit) S name n id there may.0 may.1 absent (no_id (numbers S name) id (λ m e.
      let same : m ≡ n = is_spool.one_to_one name m n id (part.numbers name m id e) at in
      none_some id (sym absent ∙ ap (get (numbers S name)) (sym same) ∙ e)))

-- an article of the spool is added
pub article_fits : (limit : Limit) (G S : Spool) → IsSpool (greatest limit) G → (id : Id) (t : Text) → get G.articles id ≡ Some t → get S.articles id ≡ None → article_fault S id t ≡ None
article_fits limit G S is_spool id t at absent =
    let is = (content_of_spool (greatest limit) G is_spool).articles id t at in
    no_article_fault S id t is.is_id is.head_lines is.head is.body_lines absent

-- ---- an article of which nothing is said

-- a fact that does not mention an id sends no head of it
silent_head : (id : Id) (fact : Fact) → mentions id fact ≡ false → head_in id fact ≡ None
silent_head id fact e = grind (arith, head_of_text)

-- and overviews tell nothing of it
silent_overviews : (id : Id) (os : List OverviewValue) → has_overview_of id os ≡ false → first_given (fields_of_overview id) os ≡ None
silent_overviews id [] e = refl
silent_overviews id (o ∷ os) e = grind (arith, false_from_ne_true, true≢false, or_left, or_right, silent_overviews id os)

silent_fields : (id : Id) (fact : Fact) → mentions id fact ≡ false → fields_in id fact ≡ None
silent_fields id (FieldsAre os) e = silent_overviews id os e
silent_fields id (OverviewsAre name range os) e = silent_overviews id os e
silent_fields id fact e = ap (option_map fields_of_head) (silent_head id fact e)

-- nor is a body sent
silent_body : (id : Id) (fact : Fact) → mentions id fact ≡ false → body_in id fact ≡ None
silent_body id fact e = grind (arith, body_of_text)

-- where no fact mentions it, nothing is given of it
none_given : {A : Type 0} (id : Id) (f : Fact → Option A) (facts : List Fact) → ((fact : Fact) → mentions id fact ≡ false → f fact ≡ None) → is_mentioned facts id ≡ false → first_given f facts ≡ None
none_given id f [] silent e = refl
none_given id f (fact ∷ facts) silent e = grind (arith, false_from_ne_true, true≢false, or_left, or_right, none_given id f facts silent)

-- so the given article is plain
pub plain_text : (facts : List Fact) (G : Spool) (id : Id) (t : Text) → IsGiven facts G → IsFalse (is_mentioned facts id) → get G.articles id ≡ Some t → t ≡ record { head = plain_head id; body = [] }
plain_text facts G id t given silent at =
    let sent = none_given id (head_in id) facts (silent_head id) silent in
    let told = none_given id (fields_in id) facts (silent_fields id) silent in
    let head : t.head ≡ plain_head id = given.heads id t at ∙ ap₂ (λ (sent : Option (List Line)) (told : Option Fields). unwrap_or sent (made_head id told)) sent told in
    let body : t.body ≡ [] = given.bodies id t at ∙ ap (λ o. unwrap_or o []) (none_given id (body_in id) facts (silent_body id) silent) in
    λ i. record { head = head i; body = body i }
