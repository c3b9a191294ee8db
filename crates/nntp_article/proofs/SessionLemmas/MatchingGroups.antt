-- Groups of a map that match, and as many names that are listed.
use Rattle.std.proofs.Common.{◌≡◌, Bool, true, false, cond, not, T, None, is_some, List, [], ◌∷◌, length, refl, sym, ap, subst, ◌∙◌, arith}
use Rattle.std.proofs.lemmas.{Bool.{true≢false, and_parts, not-true}, List.{length-map, Sums.{length-filter}}, Map.Entries.{length-keys_of}}
use Rattle.std.proofs.lemmas.Map.{Keys.{IsDistinct-from_sorted, IsDistinct-cons}, Made.{IsDistinct-keys_filter, length-le_from_is_member}}
use Rattle.std.{proofs.lemmas.Map.Text.{is_eq-slice_cmp}, specs.{Prelude.{◌||◌}, declared.cmp.Ordering.{Ordering, TheVariants.{Less}}, Ordering.{nat_cmp}}}
use Rattle.std.specs.{Ordering.{is_lt, eq_by_cmp}, Cmp.{eq_by_cmp_equiv, Lexicographic.{slice_cmp, nat_list_cmp_total}}, List.{list_all, list_any, count_by}}
use Rattle.std.specs.{List.{filter, AllByRecursion, IsDistinct, Sorted.{IsStrictlySortedBy}}, Map.{keys_of}, Set.{is_member}, FinMap.{FinMap, get, entries}}
use Rattle.std.specs.FinMap.{find, is_sorted, entries_sorted, get-entries, Entries.{below_all, is_some-find, find-where_key}}
use Rattle.nntp_wire.specs.Listing.{ActiveValue}
use Rattle.nntp_article.{proofs.ShownMaps.{equal_is, octet_keys}, specs.Session.{Spool.{Name}, Machine.{is_same, all_differ, group_names, names_differ}}}

abbrev pub same_name : Name → Name → Bool
same_name a b = eq_by_cmp (slice_cmp nat_cmp) a b

-- ---- names that are listed

pub member_names : (q : Name) (lines : List ActiveValue) → is_member same_name (group_names lines) q ≡ list_any (λ line. is_same q line.name) lines
member_names q [] = refl
member_names q (l ∷ lines) = rw (is_eq-slice_cmp q l.name) (ap (λ b. is_same q l.name || b) (member_names q lines))

-- no other is the same
none_same : (name : Name) (lines : List ActiveValue) → list_any (λ line. is_same name line.name) lines ≡ false → list_all (λ other. not (is_same name other)) (group_names lines) ≡ true
none_same name [] e = refl
none_same name (l ∷ lines) e = grind (arith, none_same name lines)

no_other : (name : Name) (names : List Name) → list_all (λ other. not (is_same name other)) names ≡ true → AllByRecursion (λ y. same_name name y ≡ false) names
no_other name [] e = tt
no_other name (other ∷ names) e =
    let both = and_parts (not (is_same name other)) (list_all (λ other. not (is_same name other)) names) e in
    (is_eq-slice_cmp name other ∙ not-true (is_same name other) both.0, no_other name names both.1)

distinct_names : (names : List Name) → all_differ names ≡ true → IsDistinct same_name names
unfolding IsDistinct
distinct_names [] e = tt
distinct_names (name ∷ names) e =
    let both = and_parts (list_all (λ other. not (is_same name other)) names) (all_differ names) e in
    (no_other name names both.0, distinct_names names both.1)

-- ---- keys that match

less_is : (r : Ordering) → is_lt r ≡ true → r ≡ Less
less_is r e = grind arith

is_passed : (b : Bool) → T b → b ≡ true
is_passed b h = grind arith

module _ {X : Type 0} where
  below_keys : (k : Name) (es : List (Name × X)) → below_all (slice_cmp nat_cmp) k es ≡ true → AllByRecursion (λ y. slice_cmp nat_cmp k y ≡ Less) (keys_of es)
  below_keys k [] e = tt
  below_keys k (x ∷ es) e = let both = and_parts (is_lt (slice_cmp nat_cmp k x.0)) (below_all (slice_cmp nat_cmp) k es) e in (less_is (slice_cmp nat_cmp k x.0) both.0, below_keys k es both.1)

  sorted_keys : (es : List (Name × X)) → is_sorted (slice_cmp nat_cmp) es ≡ true → IsStrictlySortedBy (slice_cmp nat_cmp) (keys_of es)
  unfolding IsStrictlySortedBy
  sorted_keys [] e = tt
  sorted_keys (x ∷ es) e = let both = and_parts (below_all (slice_cmp nat_cmp) x.0 es) (is_sorted (slice_cmp nat_cmp) es) e in (below_keys x.0 es both.0, sorted_keys es both.1)

  module _ (m : FinMap (slice_cmp nat_cmp) X) (t : Name → Bool) where
    -- the keys that pass a test
    abbrev kept : List Name
    kept = keys_of (filter (λ e. t e.0) (entries m))

    count-kept : count_by (λ e. t e.0) (entries m) ≡ length kept
    count-kept = sym (length-filter (λ e. t e.0) (entries m)) ∙ sym (length-keys_of (filter (λ e. t e.0) (entries m)))

    distinct_kept : IsDistinct same_name kept
    distinct_kept = IsDistinct-keys_filter same_name (λ e. t e.0) (entries m)
        (IsDistinct-from_sorted (slice_cmp nat_cmp) (keys_of (entries m))
        (sorted_keys (entries m) (is_passed _ (entries_sorted m))))

    member_kept : (q : Name) → is_member same_name kept q ≡ cond (t q) (is_some (get m q)) false
    member_kept q =
        sym (is_some-find (slice_cmp nat_cmp) q (filter (λ e. t e.0) (entries m)))
        ∙ ap is_some (find-where_key (slice_cmp nat_cmp) t q (λ x tied. ap t (sym (octet_keys q x tied))) (entries m))
        ∙ by (t q) ∙ ap (λ o. cond (t q) (is_some o) false) (sym (get-entries m q))
      where
        by : (b : Bool) → is_some (cond b (find (slice_cmp nat_cmp) q (entries m)) None) ≡ cond b (is_some (find (slice_cmp nat_cmp) q (entries m))) false
        by b = grind arith

    member_if : (q : Name) → is_some (get m q) ≡ true → t q ≡ true → is_member same_name kept q ≡ true
    member_if q here passes = member_kept q ∙ rw passes here

    member_is : (q : Name) → is_member same_name kept q ≡ true → (is_some (get m q) ≡ true) × (t q ≡ true)
    member_is q e = grind (arith, member_kept, true≢false)

    module _ (lines : List ActiveValue) (differ : names_differ lines ≡ true) (are : (q : Name) → list_any (λ line. is_same q line.name) lines ≡ true → (is_some (get m q) ≡ true) × (t q ≡ true)) where
      length-names : length (group_names lines) ≡ length lines
      length-names = simp length-map

      are_kept : (q : Name) → is_member same_name (group_names lines) q ≡ true → is_member same_name kept q ≡ true
      are_kept q e = let a = are q (sym (member_names q lines) ∙ e) in member_if q a.0 a.1

      -- where each key that passes is listed, as many are listed as pass
      pub as_many : ((q : Name) → is_some (get m q) ≡ true → t q ≡ true → list_any (λ line. is_same q line.name) lines ≡ true) → count_by (λ e. t e.0) (entries m) ≡ length lines
      as_many each =
          let most = length-le_from_is_member (eq_by_cmp_equiv nat_list_cmp_total) (group_names lines) kept (distinct_names (group_names lines) differ) are_kept in
          let least = length-le_from_is_member (eq_by_cmp_equiv nat_list_cmp_total) kept (group_names lines) distinct_kept (λ q e. let is = member_is q e in member_names q lines ∙ each q is.0 is.1) in
          let same : length kept ≡ length (group_names lines) = omega arith in
          count-kept ∙ same ∙ length-names

      -- and the other way round
      pub each_listed : count_by (λ e. t e.0) (entries m) ≡ length lines → (q : Name) → is_some (get m q) ≡ true → t q ≡ true → list_any (λ line. is_same q line.name) lines ≡ true
      each_listed count q here passes = by (list_any (λ line. is_same q line.name) lines) refl
        where
          one_more : list_any (λ line. is_same q line.name) lines ≡ false → (x : Name) → is_member same_name (q ∷ group_names lines) x ≡ true → is_member same_name kept x ≡ true
          one_more missing x e = of (same_name x q) refl e
            where
              of : (b : Bool) → same_name x q ≡ b → (b || is_member same_name (group_names lines) x) ≡ true → is_member same_name kept x ≡ true
              of true tied e = subst (λ k. is_member same_name kept k ≡ true) (sym (octet_keys x q (equal_is (slice_cmp nat_cmp x q) tied))) (member_if q here passes)
              of false tied e = are_kept x e

          apart : list_any (λ line. is_same q line.name) lines ≡ false → IsDistinct same_name (q ∷ group_names lines)
          apart missing = IsDistinct-cons same_name q (group_names lines) (no_other q (group_names lines) (none_same q lines missing)) (distinct_names (group_names lines) differ)

          by : (b : Bool) → list_any (λ line. is_same q line.name) lines ≡ b → b ≡ true
          by true e = refl
          by false e =
              let most = length-le_from_is_member (eq_by_cmp_equiv nat_list_cmp_total) (q ∷ group_names lines) kept (apart e) (one_more e) in
              let same : length kept ≡ length (group_names lines) = sym count-kept ∙ count ∙ sym length-names in
              absurd (omega arith)
