-- Maps: their keys, their entries, and maps made of lists of keys.
use Rattle.std.proofs.Common.{◌≡◌, ℕ, ◌≤◌, cond, T, List, [], ◌∷◌, length, map, None, Some, is_some, IsSome, refl, sym, ap, subst, ◌∙◌, arith}
use Rattle.std.proofs.lemmas.{List.{length-map, map-id}, Map.{Keys.{IsDistinct-from_sorted}, Made.{length-le_from_is_member, keys_of-map_values}}}
use Rattle.std.specs.{List.{IsDistinct, AllByRecursion, Sorted.{IsStrictlySortedBy}}, declared.cmp.Ordering.{Ordering, TheVariants.{Less}}}
use Rattle.std.specs.{Ordering.{eq_by_cmp}, Cmp.{IsTotalOrder, eq_by_cmp_equiv}, FinMap.{FinMap, get, len, find, is_sorted, keys, entries, entries_sorted}}
use Rattle.std.specs.FinMap.{len-entries, get-entries, contains_key-keys, from_entries, get-from_entries, IsAntisymmetric, Entries.{below_all, same_entries}}
use Rattle.nntp_article.proofs.ShownMaps.{sorted_shown}
use Rattle.nntp_theory.proofs.Members.{In, all_at, any_in, in_map, from_map}

-- ---- keys in order

below_keys : {K X : Type 0} (R : K → K → Ordering) (x : K) (es : List (K × X)) → T (below_all R x es) → AllByRecursion (λ y. R x y ≡ Less) (map (λ e. e.0) es)
below_keys R x [] h = tt
below_keys R x (e ∷ es) h = grind (arith, below_keys R x es)

-- the keys of sorted entries are sorted
pub sorted_keys : {K X : Type 0} (R : K → K → Ordering) (es : List (K × X)) → T (is_sorted R es) → IsStrictlySortedBy R (map (λ e. e.0) es)
unfolding IsStrictlySortedBy
sorted_keys R [] h = tt
sorted_keys R (e ∷ es) h = grind (arith, below_keys, sorted_keys R es)

-- ---- how many keys there are

module _ {K X : Type 0} {R : K → K → Ordering} (o : IsTotalOrder R) where
  distinct_keys : (m : FinMap R X) → IsDistinct (eq_by_cmp R) (keys m)
  distinct_keys m = IsDistinct-from_sorted R (keys m) (sorted_keys R (entries m) (entries_sorted m))

  -- a map whose keys stand in a list has no more keys than the list
  pub keys_among : (m : FinMap R X) (xs : List K) → ((q : K) → IsSome (get m q) → In q xs) → length (entries m) ≤ length xs
  keys_among m xs among = grind (arith, length-le_from_is_member (eq_by_cmp_equiv o) (keys m) xs (distinct_keys m), any_in, contains_key-keys m, length-map)

  -- and no more than a map that has them all
  pub len_le : {Y : Type 0} (m : FinMap R X) (n : FinMap R Y) → ((q : K) → IsSome (get m q) → IsSome (get n q)) → len m ≤ len n
  len_le m n among =
      let le = length-le_from_is_member (eq_by_cmp_equiv o) (keys m) (keys n) (distinct_keys m) (λ q i. sym (contains_key-keys n q) ∙ among q (contains_key-keys m q ∙ i)) in
      simp (len-entries) (simp length-map at le)

-- ---- what is found

-- an entry is found where keys differ
find_distinct : {K X : Type 0} {R : K → K → Ordering} (o : IsTotalOrder R) (k : K) (v : X) (es : List (K × X)) → IsDistinct (eq_by_cmp R) (map (λ e. e.0) es) → In (k, v) es → find R k es ≡ Some v
unfolding IsDistinct
find_distinct o k v [] d i = absurd i
find_distinct {R = R} o k v (e ∷ es) d i = grind (arith, all_at, in_map, find_distinct o k v es d.1)

-- an entry that is found is one of the map's
pub entry_in : {K X : Type 0} {R : K → K → Ordering} (same : IsAntisymmetric R) (q : K) (v : X) (es : List (K × X)) → find R q es ≡ Some v → In (q, v) es
entry_in same q v [] e = cc
entry_in same q v (x ∷ es) e = grind (arith, entry_in same q v es)

-- ---- maps made of keys

-- entries with the keys of a map are in order
pub sorted_as : {K X Y : Type 0} (R : K → K → Ordering) (m : FinMap R X) (fs : List (K × Y)) → map (λ f. f.0) fs ≡ keys m → T (is_sorted R fs)
sorted_as R m fs e =
    let keys : IsStrictlySortedBy R (map (λ f. f.0) fs) = subst (IsStrictlySortedBy R) (sym e) (sorted_keys R (entries m) (entries_sorted m)) in
    subst (λ fs. T (is_sorted R fs)) (map-id fs) (sorted_shown R (λ k. k) (λ v. v) fs keys)

module _ {K X : Type 0} {R : K → K → Ordering} (o : IsTotalOrder R) (same : IsAntisymmetric R) where
  -- what is found is an entry
  pub get_in : (m : FinMap R X) (q : K) (v : X) → get m q ≡ Some v → In (q, v) (entries m)
  get_in m q v e = entry_in same q v (entries m) (sym (get-entries m q) ∙ e)

  -- and back
  pub in_get : (m : FinMap R X) (q : K) (v : X) → In (q, v) (entries m) → get m q ≡ Some v
  in_get m q v i = get-entries m q ∙ find_distinct o q v (entries m) (distinct_keys o m) i

  -- what is found has its key among the keys
  pub key_of : (m : FinMap R X) (q : K) → IsSome (get m q) → In q (keys m)
  key_of m q i = grind (arith, in_map, get_in)

  -- and back
  pub of_key : (m : FinMap R X) (q : K) → In q (keys m) → IsSome (get m q)
  of_key m q i = let f = from_map (λ (e : K × X). e.0) q (entries m) i in grind (arith, f, in_get m f.0.0 f.0.1)

  -- the map of a function at the keys
  pub made_of : (f : K → X) (ks : List K) → FinMap R X
  made_of f ks = from_entries (map (λ k. (k, f k)) ks)

  -- what is found was made of one of the keys
  pub get-made_of : (f : K → X) (ks : List K) (q : K) (v : X) → get (made_of f ks) q ≡ Some v → In q ks × (v ≡ f q)
  unfolding made_of
  get-made_of f ks q v e = grind (arith, entry_in same q v (map (λ k. (k, f k)) ks) (sym (get-from_entries o (map (λ k. (k, f k)) ks) q) ∙ e), from_map)

  -- a key is found
  found : (f : K → X) (ks : List K) (q : K) → In q ks → IsSome (find R q (map (λ k. (k, f k)) ks))
  found f [] q i = absurd i
  found f (k ∷ ks) q i = grind (arith, found f ks q, (eq_by_cmp_equiv o).refl q)

  -- and so in the map
  pub in-made_of : (f : K → X) (ks : List K) (q : K) → In q ks → IsSome (get (made_of f ks) q)
  unfolding made_of
  in-made_of f ks q i = ap is_some (get-from_entries o (map (λ k. (k, f k)) ks) q) ∙ found f ks q i

module _ {K : Type 0} (R : K → K → Ordering) (o : IsTotalOrder R) (same : IsAntisymmetric R) where
  -- the keys, each once and in order
  pub key_map : List K → FinMap R (List ℕ)
  key_map ks = made_of o same (λ k. []) ks

  -- each of the keys is there
  pub in_key_map : (ks : List K) (q : K) → In q ks → In q (keys (key_map ks))
  unfolding key_map
  in_key_map ks q i = key_of o same (made_of o same (λ k. []) ks) q (in-made_of o same (λ k. []) ks q i)

  -- and no other
  pub of_key_map : (ks : List K) (q : K) → In q (keys (key_map ks)) → In q ks
  unfolding key_map
  of_key_map ks q i = grind (arith, of_key o same (key_map ks) q i, get-made_of)

-- ---- the keys alone

module _ {K X : Type 0} {R : K → K → Ordering} (o : IsTotalOrder R) (same : IsAntisymmetric R) where
  -- entries without their values
  abbrev bare : List (K × X) → List (K × List ℕ)
  bare es = map (λ e. (e.0, [])) es

  -- those of a map are in order
  sorted_bare : (m : FinMap R X) → T (is_sorted R (bare (entries m)))
  sorted_bare m = sorted_shown R (λ k. k) (λ x. []) (entries m) (sorted_keys R (entries m) (entries_sorted m))

  -- what is found among them
  find_bare : (q : K) (es : List (K × X)) → find R q (bare es) ≡ cond (is_some (find R q es)) (Some []) None
  find_bare q [] = refl
  find_bare q (e ∷ es) = grind (arith, find_bare q es)

  -- maps that have the same keys list them alike
  pub same_keys : (m n : FinMap R X) → ((q : K) → IsSome (get m q) → IsSome (get n q)) → ((q : K) → IsSome (get n q) → IsSome (get m q)) → keys m ≡ keys n
  same_keys m n f g =
      let one = same_entries R o same (bare (entries m)) (bare (entries n)) (sorted_bare m) (sorted_bare n) (λ q. grind (arith, find_bare, get-entries, f q, g q)) in
      sym (keys_of-map_values (λ x. []) (entries m)) ∙ ap (map (λ e. e.0)) one ∙ keys_of-map_values (λ x. []) (entries n)
