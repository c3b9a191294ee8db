-- What a builder adds leaves groups and articles that a spool may hold.
use Rattle.std.proofs.{Common.{arith, ◌≡◌, ⊎_elim, ℕ, Bool, false, cond, not, Option, None, Some, is_none, IsSome}, lemmas.Bool.{and_parts, not-false}}
use Rattle.std.specs.{Cmp.Lexicographic.{nat_list_cmp_total}, FinMap.{get, insert, empty}}
use Rattle.nntp_wire.specs.Decided.{is_group_name}
use Rattle.nntp_article.specs.{Article.Parts.{Id}, Session.{Machine.{is_article_number}, Spool.{Name, Spool, Numbers, Text, numbers}}}
use Rattle.nntp_content.specs.{Content.{with_group, with_article, no_spool}, Inner.Content.{with_number_in, without_articles, IsNamed, IsArticle, IsContent}}
use Rattle.nntp_content.{specs.Numbers.{has_id}, proofs.{MapEntries.{value_of_some, empty_has, got_more}, ShownMaps.{octet_keys}}}
use Rattle.nntp_store.{specs.Inner.Building.{group_fault, place_fault, article_fault}, proofs.NumbersInOrder.{no_numbers, one_more}}
use Rattle.nntp_store.specs.declared.value.spool_fault.SpoolFault.TheVariants as faults

-- a test that found no fault
no_fault : {A : Type 0} (b : Bool) (x : A) (o : Option A) → cond b (Some x) o ≡ None → (b ≡ false) × (o ≡ None)
no_fault b x o e = grind arith

pub nothing : (limit : ℕ) → IsContent limit no_spool
nothing limit = grind (arith, empty_has)

module _ (limit : ℕ) (S : Spool) (content : IsContent limit S) where
  pub articles_dropped : IsContent limit (without_articles S)
  articles_dropped = record { groups = content.groups; articles = (nothing limit).articles }

  pub with_named : (name : Name) (N : Numbers) → IsNamed limit name N → IsContent limit (with_group S name N)
  with_named name N named = record {
    groups = λ q M g. ⊎_elim (λ e. rw (e.0, e.1) named) (content.groups q M) (got_more nat_list_cmp_total octet_keys S.groups name N q M g);
    articles = content.articles;
  }

  pub with_text : (id : Id) (t : Text) → IsArticle id t → IsContent limit (with_article S id t)
  with_text id t is = record {
    groups = content.groups;
    articles = λ q u g. ⊎_elim (λ e. rw (e.0, e.1) is) (content.articles q u) (got_more nat_list_cmp_total octet_keys S.articles id t q u g);
  }

  pub group_added : (name : Name) → group_fault S name ≡ None → IsContent limit (with_group S name empty)
  group_added name e =
      let a = no_fault (not (is_group_name name)) faults.BadName _ e in
      with_named name empty (record { is_name = not-false (is_group_name name) a.0; numbers = no_numbers limit })

  new_number : (name : Name) (n : ℕ) (id : Id) → place_fault limit S name n id ≡ None → has_id (numbers S name) id ≡ false → IsContent limit (with_group S name (insert (numbers S name) n id))
  new_number name n id e fresh =
      let a = no_fault (is_none (get S.groups name)) faults.UnknownGroup _ e in
      let b = no_fault (not (is_article_number limit n)) faults.BadNumber _ a.1 in
      let some : IsSome (get S.groups name) = grind arith in
      let N = value_of_some (get S.groups name) some in
      let named = content.groups name N.0 N.1 in
      with_named name (insert (numbers S name) n id) (grind (arith, one_more, not-false))

  pub number_added : (name : Name) (n : ℕ) (id : Id) → place_fault limit S name n id ≡ None → IsContent limit (with_number_in S name n id)
  number_added name n id e = search (arith, new_number)

  pub article_added : (id : Id) (t : Text) → article_fault S id t ≡ None → IsContent limit (with_article S id t)
  article_added id t e = grind (arith, no_fault, and_parts, not-false, with_text)
