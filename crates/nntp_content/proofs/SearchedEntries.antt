-- What a binary search finds among entries in the order of their keys.
use Rattle.std.proofs.Common.{◌≡◌, ℕ, ◌+◌, ◌<◌, true, false, Option, None, Some, option_map, List, [], ◌∷◌, map, length, get_or, refl, sym, ap, subst, ◌∙◌}
use Rattle.std.proofs.{Common.{arith}, Math.ListN.{get_or-map}, lemmas.{Bool.{and_parts, cases_lt}, List.Sorted.{searchable_from_sorted}}}
use Rattle.std.proofs.lemmas.Map.{Entries.{lookup_from_place, place_from_lookup, length-keys_of}, Keys.{IsDistinct-from_sorted, Less-from_sorted}}
use Rattle.std.{proofs.lemmas.Option.{slice_get-get_or, slice_get_within, get_or_from_slice_get}, specs.{Cmp.{IsTotalOrder, IsEquivalence}, FinMap.{get}}}
use Rattle.std.specs.{FinMap.{is_sorted, IsAntisymmetric, Entries.{below_all}}, List.{slice_get, AllByRecursion, Sorted.{IsNonDecreasingBy, IsPartitionPoint}}}
use Rattle.std.specs.{List.Sorted.{IsStrictlySortedBy}, Map.{lookup, keys_of}, Ordering.{is_lt, is_eq, eq_by_cmp, ordering_index}}
use Rattle.std.specs.declared.cmp.Ordering.{Ordering, TheVariants.{Less, Equal, Greater}}
use Rattle.nntp_article.{specs.Inner.ShownMap.{shown, shown_entry}, proofs.ShownMaps.{get-shown, equal_is}}
use Rattle.nntp_content.proofs.MapEntries.{less_is}

not_less : (r : Ordering) → r ≡ Less → r ≡ Equal → ⊥
not_less r e f = cc

not_greater : (r : Ordering) → r ≡ Greater → r ≡ Equal → ⊥
not_greater r e f = cc

module _ {L V K X : Type 0} (R : K → K → Ordering) (key : L → K) (value : V → X) (o : IsTotalOrder R) (same : IsAntisymmetric R) where
  abbrev at : K → List (L × V) → Option V
  at q es = lookup (λ l. is_eq (R q (key l))) es

  ties : IsEquivalence (λ (a b : L). eq_by_cmp R (key a) (key b))
  ties = grind arith

  above : (l : L) (es : List (L × V)) → below_all R (key l) (map (shown_entry key value) es) ≡ true → AllByRecursion (λ k. R (key l) (key k) ≡ Less) (keys_of es)
  above l [] h = tt
  above l (e ∷ es) h = grind (arith, and_parts, less_is, above l es)

  -- the keys ascend in std's words
  pub strict : (es : List (L × V)) → is_sorted R (map (shown_entry key value) es) ≡ true → IsStrictlySortedBy (λ a b. R (key a) (key b)) (keys_of es)
  unfolding IsStrictlySortedBy
  strict [] h = tt
  strict (e ∷ es) h = grind (arith, and_parts, above, strict es)

  -- an element whose key is the one that is looked for
  pub found_at : (es : List (L × V)) (q : K) (i : ℕ) (d : L × V) → is_sorted R (map (shown_entry key value) es) ≡ true → i < length es → R (key (get_or es i d).0) q ≡ Equal
      → Some (value (get_or es i d).1) ≡ get (shown R key value es) q
  found_at es q i d sorted lt equal =
      let e = get_or es i d in
      let there : at q es ≡ Some e.1 = subst (λ (k : K). at k es ≡ Some e.1) (same (key e.0) q equal)
      (lookup_from_place ties es i e.0 e.1 (IsDistinct-from_sorted (λ a b. R (key a) (key b)) (keys_of es) (strict es sorted)) (slice_get-get_or es i d lt)) in
      sym (get-shown R key value o es q ∙ ap (option_map value) there)

  -- a place between lesser and greater keys
  pub none_at : (es : List (L × V)) (q : K) (i : ℕ) → IsPartitionPoint (λ e. R (key e.0) q ≡ Less) (λ e. R (key e.0) q ≡ Greater) es i → None ≡ get (shown R key value es) q
  none_at es q i parted = sym (get-shown R key value o es q ∙ ap (option_map value) (by (at q es) refl))
    where
      no_tie : (j : ℕ) (e : L × V) → slice_get es j ≡ Some e → is_eq (R q (key e.0)) ≡ true → ⊥
      no_tie j e is tie = search (arith, equal_is, get_or_from_slice_get, not_less, not_greater, slice_get_within, cases_lt)

      by : (v : Option V) → at q es ≡ v → at q es ≡ None
      by None e = e
      by (Some v) e = let p = place_from_lookup (λ l. is_eq (R q (key l))) es v e in absurd (no_tie p.0 (p.1, v) p.2 p.3)

  -- the keys are such as a binary search asks for
  pub searchable : (es : List (L × V)) (q : K) → is_sorted R (map (shown_entry key value) es) ≡ true → IsNonDecreasingBy (λ e. ordering_index (R (key e.0) q)) es
  searchable es q sorted = searchable_from_sorted o (λ (e : L × V). key e.0) es q (λ k d le lt.
      let less : R (key (get_or (keys_of es) k d.0)) (key (get_or (keys_of es) (k + 1) d.0)) ≡ Less =
      Less-from_sorted (λ a b. R (key a) (key b)) (keys_of es) k (k + 1) d.0 (strict es sorted) (omega arith) (rw (length-keys_of es) lt) in
      not_above _ _ (rw (get_or-map (λ (e : L × V). e.0) es k d, get_or-map (λ (e : L × V). e.0) es (k + 1) d) at less))
    where
      not_above : (k l : K) → R k l ≡ Less → is_lt (R l k) ≡ false
      not_above k l less = grind arith
