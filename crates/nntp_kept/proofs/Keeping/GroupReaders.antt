-- What is shown of the groups that are kept.
use Rattle.nntp_kept.proofs.Base.{◌≡◌, ◌==◌, List, Some, refl, sym, ap, subst, ◌∙◌, arith, list_any, nat_cmp, eq_by_cmp, slice_cmp, nat_list_cmp_total, FinMap}
use Rattle.nntp_kept.proofs.Base.{get, entries, octet_keys, Name, is_same, Fact, asks_of, AsksStand, sorted_keys, in_get, KeptGroup, told, AreKeptGroups}
use Rattle.nntp_kept.{proofs.{Base.{are_unseen}, Keeping.{KeptGroups.{kept_of, shown_kept}, FactsOfOneGroup.{flip_number}}}, specs.Inner.Kept.{IsKeptGroup}}
use Rattle.nntp_kept.specs.Inner.Readers.{shown_groups, AreShownNumbers, HasShownNumbers, AreShownGroups, ShownGroup, with_ids, shown_group}
use Rattle.nntp_kept_articles.proofs.{TextKeys.{flip_text}, MadeLists.{read_off, any_along, all_along}}
use Rattle.std.{specs.{FinMap.{entries_sorted, contains_key-keys}, List.Sorted.{IsStrictlySortedBy}, BTreeMap.{is_at}}, proofs.lemmas.List.{map-id}}

-- ---- one group

-- its numbers, each with its id
shown_numbers : (facts : List Fact) (name : Name) (g : KeptGroup) → IsKeptGroup (told facts name) g → AreShownNumbers facts name (with_ids g g.numbers.shown)
shown_numbers facts name g kept = record {
  ascending = subst (IsStrictlySortedBy nat_cmp) (sym (read_off (λ n. (n, get g.ids n)) (λ e. e.0) (λ n. n) g.numbers.shown (λ n. refl) ∙ map-id g.numbers.shown)) kept.numbers.ascends;
  all = λ n. any_along (λ m. (m, get g.ids m)) (λ m. m) (λ e. e.0 == n) (is_at (nat_cmp n)) g.numbers.shown (λ m. sym (flip_number n m))
      ∙ ap (list_any (is_at (nat_cmp n))) (map-id g.numbers.shown) ∙ kept.numbers.shown n;
  ids = all_along (λ e. e.1 ≡ (told facts name).ids e.0) (λ n. (n, get g.ids n)) g.numbers.shown (λ n i. kept.ids n);
}

-- ---- all groups

-- what is shown of the groups that are kept is what the facts say
pub groups_shown : (facts : List Fact) (groups : FinMap (slice_cmp nat_cmp) KeptGroup)
    → ((name : Name) → AsksStand (asks_of name facts)) → AreKeptGroups facts groups → AreShownGroups facts (shown_groups groups)
groups_shown facts groups stand kept = record {
  ascending = grind (arith, read_off, entries_sorted, sorted_keys (slice_cmp nat_cmp) (entries groups) (entries_sorted groups));
  all = λ name. any_along one (λ e. e.0) (λ g. is_same g.name name) (eq_by_cmp (slice_cmp nat_cmp) name) (entries groups) (λ e. sym (flip_text name e.0))
      ∙ sym (contains_key-keys groups name) ∙ shown_kept (told facts) groups name kept;
  each = all_along (HasShownNumbers facts) one (entries groups) (λ e i.
      let at = in_get nat_list_cmp_total octet_keys groups e.0 e.1 i in
      let is = kept_of (told facts) groups e.0 (Some e.1) at kept in
      record { numbers = shown_numbers facts e.0 e.1 is; unseen = are_unseen e.1.numbers (asks_of e.0 facts) is.numbers is.bounded (stand e.0) });
}
  where
    one : Name × KeptGroup → ShownGroup
    one e = shown_group e.0 e.1
