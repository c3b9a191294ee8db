-- What look-ups and insertions make of the finite map that entries show.
use Rattle.std.proofs.Common.{◌≡◌, Bool, true, cond, T, Option, None, Some, IsSome, is_some, option_map, List, [], ◌∷◌, map, length, refl, sym, ap, subst, ◌∙◌}
use Rattle.std.{proofs.{Common.{arith}, lemmas.{Bool.{true≢false}, List.{length-map}}}, specs.declared.cmp.Ordering.{Ordering, TheVariants.{Less, Equal}}}
use Rattle.std.specs.{Ordering.{eq_by_cmp, is_eq, nat_cmp}, Cmp.{IsTotalOrder, eq_by_cmp_equiv, Lexicographic.{slice_cmp}}, Prelude.{◌&&◌}}
use Rattle.std.specs.{List.{AllByRecursion, list_all, Sorted.{IsStrictlySortedBy}}, FinMap.{FinMap, get, insert, entries, len, find, put, is_sorted}}
use Rattle.std.specs.FinMap.{from_entries, from_sorted, IsAntisymmetric, nat_cmp-IsAntisymmetric, slice_cmp-IsAntisymmetric, same_map, get-from_entries}
use Rattle.std.specs.{FinMap.{get-from_sorted, entries-from_sorted, len-entries, get-insert, Entries.{find-put, below_all}}, Map.{lookup, keys_of, set_value}}
use Rattle.std.specs.BTreeMap.{insert_entry}
use Rattle.nntp_article.specs.Inner.ShownMap.{shown, shown_entry}

-- equal keys of octets are one
pub octet_keys : IsAntisymmetric (slice_cmp nat_cmp)
octet_keys = slice_cmp-IsAntisymmetric nat_cmp-IsAntisymmetric

module _ {K X : Type 0} {R : K → K → Ordering} (o : IsTotalOrder R) where
  from_entries-put : IsAntisymmetric R → (es : List (K × X)) (k : K) (v : X) → from_entries {R = R} (put R k v es) ≡ insert (from_entries es) k v
  from_entries-put same es k v = same_map o same _ _ (λ q.
      get-from_entries o (put R k v es) q ∙ find-put R o q k v es
      ∙ sym (get-insert o (from_entries es) k v q ∙ ap (cond (eq_by_cmp R q k) (Some v)) (get-from_entries o es q)))

  entries-from_entries : IsAntisymmetric R → (es : List (K × X)) → T (is_sorted R es) → entries (from_entries {R = R} es) ≡ es
  entries-from_entries same es h =
      ap entries (same_map o same (from_entries {R = R} es) (from_sorted es) (λ q. get-from_entries o es q ∙ sym (get-from_sorted R es q h)))
      ∙ entries-from_sorted R es h

-- L and V as the map keeps them, K and X as they are shown
module _ {L V K X : Type 0} (R : K → K → Ordering) (key : L → K) (value : V → X) where
  find-shown : (q : K) (es : List (L × V)) → find R q (map (shown_entry key value) es) ≡ option_map value (lookup (λ k. is_eq (R q (key k))) es)
  find-shown q [] = refl
  find-shown q (e ∷ es) = grind (arith, find-shown q es)

  shown-insert_entry : (es : List (L × V)) (k : L) (v : V) → map (shown_entry key value) (insert_entry (λ a b. R (key a) (key b)) es k v) ≡ put R (key k) (value v) (map (shown_entry key value) es)
  shown-insert_entry [] k v = refl
  shown-insert_entry (e ∷ es) k v = grind (arith, shown-insert_entry es k v)

  below_shown : (k : L) (es : List (L × V)) → AllByRecursion (λ y. R (key k) (key y) ≡ Less) (keys_of es) → T (below_all R (key k) (map (shown_entry key value) es))
  below_shown k [] h = tt
  below_shown k (e ∷ es) h = rw h.0 (below_shown k es h.1)

  pub sorted_shown : (es : List (L × V)) → IsStrictlySortedBy (λ a b. R (key a) (key b)) (keys_of es) → T (is_sorted R (map (shown_entry key value) es))
  unfolding IsStrictlySortedBy
  sorted_shown [] h = tt
  sorted_shown (e ∷ es) h = grind (arith, below_shown e.0 es h.0, sorted_shown es h.1)

  module _ (o : IsTotalOrder R) where
    pub get-shown : (es : List (L × V)) (q : K) → get (shown R key value es) q ≡ option_map value (lookup (λ k. is_eq (R q (key k))) es)
    get-shown es q = get-from_entries o _ q ∙ find-shown q es

    module _ (same : IsAntisymmetric R) where
      pub insert-shown : (es fs : List (L × V)) (k : L) (v : V) → fs ≡ insert_entry (λ a b. R (key a) (key b)) es k v → shown R key value fs ≡ insert (shown R key value es) (key k) (value v)
      insert-shown es fs k v e = ap (shown R key value) e ∙ ap from_entries (shown-insert_entry es k v) ∙ from_entries-put o same _ _ _

      pub entries-shown : (es : List (L × V)) → IsStrictlySortedBy (λ a b. R (key a) (key b)) (keys_of es) → entries (shown R key value es) ≡ map (shown_entry key value) es
      entries-shown es h = entries-from_entries o same _ (sorted_shown es h)

      pub len-shown : (es : List (L × V)) → IsStrictlySortedBy (λ a b. R (key a) (key b)) (keys_of es) → len (shown R key value es) ≡ length es
      len-shown es h = len-entries _ ∙ ap length (entries-shown es h) ∙ simp length-map

      -- the same of a list of pairs in the order of their keys
      pub entries-ascending : (es : List (L × V)) → is_sorted R (map (shown_entry key value) es) ≡ true → entries (shown R key value es) ≡ map (shown_entry key value) es
      entries-ascending es h = entries-from_entries o same _ (subst T (sym h) tt)

      pub len-ascending : (es : List (L × V)) → is_sorted R (map (shown_entry key value) es) ≡ true → len (shown R key value es) ≡ length es
      len-ascending es h = len-entries _ ∙ ap length (entries-ascending es h) ∙ simp length-map

pub option_map-option_map : {A B C : Type 0} (f : A → B) (g : B → C) (o : Option A) → option_map (λ x. g (f x)) o ≡ option_map g (option_map f o)
option_map-option_map f g o = grind arith

pub option_map_id : {A : Type 0} (o : Option A) → option_map (λ x. x) o ≡ o
option_map_id o = grind arith

swap_tests : {A : Type 0} (a b : Bool) (x y z : A) → (a ≡ true → b ≡ true → ⊥) → cond a x (cond b y z) ≡ cond b y (cond a x z)
swap_tests a b x y z apart = grind arith

test_again : {A : Type 0} (a : Bool) (x y z : A) → cond a x z ≡ cond a x (cond a y z)
test_again a x y z = grind arith

pub equal_is : (r : Ordering) → is_eq r ≡ true → r ≡ Equal
equal_is r e = grind arith

tied_itself_true : {K : Type 0} {R : K → K → Ordering} → IsTotalOrder R → (x y : K) → x ≡ y → is_eq (R x y) ≡ true
tied_itself_true {R = R} o x y e = subst (λ z. is_eq (R x z) ≡ true) e ((eq_by_cmp_equiv o).refl x)

module _ {L V K X : Type 0} (R : K → K → Ordering) (key : L → K) (value : V → X) (o : IsTotalOrder R) (same : IsAntisymmetric R) where
  find-set_value : (k q : K) (w : V) (es : List (L × V)) → IsSome (lookup (λ l. is_eq (R k (key l))) es)
      → find R q (map (shown_entry key value) (set_value (λ l. is_eq (R k (key l))) es w)) ≡ cond (eq_by_cmp R q k) (Some (value w)) (find R q (map (shown_entry key value) es))
  find-set_value k q w [] had = cc
  find-set_value k q w (e ∷ es) had = grind (arith, equal_is, test_again, find-set_value k q w es, swap_tests, true≢false, tied_itself_true)

  set-shown : (es fs : List (L × V)) (k : K) (w : V) → fs ≡ set_value (λ l. is_eq (R k (key l))) es w
      → IsSome (lookup (λ l. is_eq (R k (key l))) es) → shown R key value fs ≡ insert (shown R key value es) k (value w)
  set-shown es fs k w e had = same_map o same _ _ (λ q.
      get-from_entries o _ q ∙ ap (λ es. find R q (map (shown_entry key value) es)) e ∙ find-set_value k q w es had
      ∙ sym (get-insert o _ k (value w) q ∙ ap (cond (eq_by_cmp R q k) (Some (value w))) (get-from_entries o _ q)))

  pub replaced : (es fs : List (L × V)) (m : FinMap R X) (k : K) (old new : V) → shown R key value es ≡ m
      → Some old ≡ lookup (λ l. is_eq (R k (key l))) es → fs ≡ set_value (λ l. is_eq (R k (key l))) es new
      → (shown R key value fs ≡ insert m k (value new)) × (get m k ≡ Some (value old))
  replaced es fs m k old new is had e = grind (arith, set-shown, get-shown)

  pub missing : (es : List (L × V)) (m : FinMap R X) (k : K) → shown R key value es ≡ m → None ≡ lookup (λ l. is_eq (R k (key l))) es → get m k ≡ None
  missing es m k is none = ap (λ m. get m k) (sym is) ∙ get-shown R key value o es k ∙ ap (option_map value) (sym none)

-- to insert what is there changes nothing
module _ {K X : Type 0} {R : K → K → Ordering} (o : IsTotalOrder R) (same : IsAntisymmetric R) where
  pub insert-same : (m : FinMap R X) (k : K) (x : X) → get m k ≡ Some x → insert m k x ≡ m
  insert-same m k x here = same_map o same _ _ (λ q. let g = get-insert o m k x q in let e = same q k in grind (arith, equal_is))

pub is_some-option_map : {A B : Type 0} (f : A → B) (o : Option A) → is_some (option_map f o) ≡ is_some o
is_some-option_map f o = grind arith

pub list_all-map : {X Y : Type 0} (p : Y → Bool) (f : X → Y) (xs : List X) → list_all p (map f xs) ≡ list_all (λ x. p (f x)) xs
list_all-map p f [] = refl
list_all-map p f (x ∷ xs) = ap (λ b. p (f x) && b) (list_all-map p f xs)
