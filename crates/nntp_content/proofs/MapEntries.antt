-- Entries in the order of their keys.
use Rattle.std.proofs.Common.{arith, ◌≡◌, ◌⊎◌, Bool, true, false, T, List, [], ◌∷◌, ◌++◌, Option, None, Some, IsSome, refl, sym, ap, ◌∙◌, append_assoc}
use Rattle.std.proofs.lemmas.{Bool.{and_parts}, List.{nil_from_length, Elements.{recursion_from_All, All-from_recursion}, Sums.{AllPass-from_list_all}}}
use Rattle.std.{proofs.lemmas.List.Sums.{list_all-from_AllPass}, specs.{Cmp.{IsTotalOrder, eq_by_cmp_equiv}, FinMap.{FinMap, get, get-empty, empty, len}}}
use Rattle.std.specs.FinMap.{len-entries, len-empty, entries, insert, put, find, is_sorted, entries-insert, get-insert, entries_sorted, get-entries}
use Rattle.std.specs.{FinMap.{IsAntisymmetric, Entries.{below_all}}, List.{list_all, AllByRecursion}, Ordering.{is_lt, eq_by_cmp, ordering_reverse}}
use Rattle.std.specs.{Prelude.{◌↔◌}, declared.cmp.Ordering.{Ordering, TheVariants.{Less, Greater}}}
use Rattle.nntp_article.proofs.ShownMaps.{equal_is}
use Rattle.nntp_content.specs.Ascending.{is_last}

pub is_passed : (b : Bool) → T b → b ≡ true
is_passed b h = grind arith

pub less_is : (r : Ordering) → is_lt r ≡ true → r ≡ Less
less_is r e = grind arith

pub value_of_some : {A : Type 0} (o : Option A) → IsSome o → (x : A) × (o ≡ Some x)
value_of_some o h = grind arith

abbrev some : {A : Type 0} → A → Option A
some x = Some x

pub some_is : {A : Type 0} (x y : A) → some x ≡ some y → x ≡ y
some_is x y e = cc

pub some_none : {A : Type 0} (x : A) → some x ≡ None → ⊥
some_none x e = cc

-- no entries have nothing
pub empty_has : {K X : Type 0} (R : K → K → Ordering) (k : K) (v : X) → get (empty {X = X} {R = R}) k ≡ Some v → ⊥
empty_has R k v g = let no : None ≡ Some v = sym (get-empty R k) ∙ g in cc

pub entries-empty : {K X : Type 0} {R : K → K → Ordering} (m : FinMap R X) → m ≡ empty → entries m ≡ []
entries-empty {X = X} {R = R} m e = nil_from_length (entries m) (sym (len-entries m) ∙ ap len e ∙ len-empty R X)

module _ {K : Type 0} {R : K → K → Ordering} (o : IsTotalOrder R) where
  pub tied_itself : (x : K) → eq_by_cmp R x x ≡ true
  tied_itself x = (eq_by_cmp_equiv o).refl x

  pub apart : (x y : K) → is_lt (R x y) ≡ true → eq_by_cmp R y x ≡ false
  apart x y h = let r : R y x ≡ Greater = o.antisymm y x ∙ ap ordering_reverse (less_is (R x y) h) in rw r refl

module _ {K X : Type 0} {R : K → K → Ordering} (o : IsTotalOrder R) where
  put-last : (es : List (K × X)) (k : K) (v : X) → list_all (λ e. is_lt (R e.0 k)) es ≡ true → put R k v es ≡ es ++ (k, v) ∷ []
  put-last [] k v h = refl
  put-last (e ∷ es) k v h = grind (arith, and_parts, less_is, put-last es k v)

  -- an entry behind all others
  pub entries-insert_last : (m : FinMap R X) (k : K) (v : X) → is_last m k ≡ true → entries (insert m k v) ≡ entries m ++ (k, v) ∷ []
  entries-insert_last m k v h = entries-insert o m k v ∙ put-last (entries m) k v h

  find_last : (es : List (K × X)) (k : K) → list_all (λ e. is_lt (R e.0 k)) es ≡ true → find R k es ≡ None
  find_last [] k h = refl
  find_last (e ∷ es) k h = grind (arith, and_parts, apart, find_last es k)

  -- a key above all others is not there
  pub absent_above : (m : FinMap R X) (k : K) → is_last m k ≡ true → get m k ≡ None
  absent_above m k last = get-entries m k ∙ find_last (entries m) k last

  below_middle : (k : K) (xs : List (K × X)) (e : K × X) (ys : List (K × X)) → below_all R k (xs ++ e ∷ ys) ≡ true → is_lt (R k e.0) ≡ true
  below_middle k [] e ys h = (and_parts (is_lt (R k e.0)) (below_all R k ys) h).0
  below_middle k (x ∷ xs) e ys h = below_middle k xs e ys (and_parts (is_lt (R k x.0)) (below_all R k (xs ++ e ∷ ys)) h).1

  -- the keys before an entry are less
  less_before : (xs : List (K × X)) (e : K × X) (ys : List (K × X)) → is_sorted R (xs ++ e ∷ ys) ≡ true → list_all (λ f. is_lt (R f.0 e.0)) xs ≡ true
  less_before [] e ys h = refl
  less_before (x ∷ xs) e ys h = grind (arith, and_parts, below_middle, less_before xs e ys)

  -- an entry behind lesser keys is found
  find_middle : (xs : List (K × X)) (e : K × X) (ys : List (K × X)) → list_all (λ f. is_lt (R f.0 e.0)) xs ≡ true → find R e.0 (xs ++ e ∷ ys) ≡ Some e.1
  find_middle [] e ys h = rw (tied_itself o e.0) refl
  find_middle (x ∷ xs) e ys h = grind (arith, and_parts, apart, find_middle xs e ys)

  -- an entry between others
  pub placed : (m : FinMap R X) (xs : List (K × X)) (e : K × X) (ys : List (K × X)) → entries m ≡ xs ++ e ∷ ys → (list_all (λ f. is_lt (R f.0 e.0)) xs ≡ true) × (get m e.0 ≡ Some e.1)
  placed m xs e ys is = grind (arith, less_before xs e ys, is_passed, entries_sorted m, get-entries m e.0, find_middle xs e ys)

  -- the next entry of a whole map
  pub next_entry : (m whole : FinMap R X) (e : K × X) (ys : List (K × X)) → entries whole ≡ entries m ++ e ∷ ys
      → (is_last m e.0 ≡ true) × (get whole e.0 ≡ Some e.1) × (entries whole ≡ entries (insert m e.0 e.1) ++ ys)
  next_entry m whole e ys is = grind (arith, placed whole (entries m) e ys is, append_assoc (entries m) (e ∷ []) ys, entries-insert_last m e.0 e.1)

  find_front : (q : K) (v : X) (xs ys : List (K × X)) → find R q xs ≡ Some v → find R q (xs ++ ys) ≡ Some v
  find_front q v [] ys h = cc
  find_front q v (x ∷ xs) ys h = grind (arith, find_front q v xs ys)

  -- what a front of it has, the whole map has
  pub got_front : (m whole : FinMap R X) (ys : List (K × X)) → entries whole ≡ entries m ++ ys → (k : K) (v : X) → get m k ≡ Some v → get whole k ≡ Some v
  got_front m whole ys is k v g = get-entries whole k ∙ ap (find R k) is ∙ find_front k v (entries m) ys (sym (get-entries m k) ∙ g)

  -- what holds of each that is found holds of each entry
  pub got_all : (P : K → X → Type 0) (m : FinMap R X) → ((k : K) (v : X) → get m k ≡ Some v → P k v) → AllByRecursion (λ e. P e.0 e.1) (entries m)
  got_all P m h = each [] (entries m) refl
    where
      each : (xs ys : List (K × X)) → entries m ≡ xs ++ ys → AllByRecursion (λ e. P e.0 e.1) ys
      each xs [] is = tt
      each xs (e ∷ ys) is = (h e.0 e.1 (placed m xs e ys is).1, each (xs ++ e ∷ []) ys (is ∙ sym (append_assoc xs (e ∷ []) ys)))

  module _ (same : IsAntisymmetric R) where
    -- and what holds of each entry holds of the one that is found
    pub all_found : (P : K → X → Type 0) (es : List (K × X)) → AllByRecursion (λ e. P e.0 e.1) es → (k : K) (v : X) → find R k es ≡ Some v → P k v
    all_found P [] all k v h = absurd cc
    all_found P (e ∷ es) all k v h = grind (arith, all_found P es all.1 k v, some_is, equal_is)

    pub all_got : (P : K → X → Type 0) (m : FinMap R X) → AllByRecursion (λ e. P e.0 e.1) (entries m) → (k : K) (v : X) → get m k ≡ Some v → P k v
    all_got P m all k v h = all_found P (entries m) all k v (sym (get-entries m k) ∙ h)

    -- a test passes at all entries exactly if it does at each that is found
    pub test_each : (p : K → X → Bool) (m : FinMap R X) → (list_all (λ e. p e.0 e.1) (entries m) ≡ true) ↔ ((k : K) (v : X) → get m k ≡ Some v → p k v ≡ true)
    test_each p m = (
      λ all. all_got (λ k v. p k v ≡ true) m (recursion_from_All (λ e. p e.0 e.1 ≡ true) (entries m) (AllPass-from_list_all (λ e. p e.0 e.1) (entries m) all)),
      λ each. list_all-from_AllPass (λ e. p e.0 e.1) (entries m) (All-from_recursion (λ e. p e.0 e.1 ≡ true) (entries m) (got_all (λ k v. p k v ≡ true) m each)),
    )

    -- what is found once an entry was put in is that entry, or was there before
    pub got_more : (m : FinMap R X) (k : K) (v : X) (q : K) (x : X) → get (insert m k v) q ≡ Some x → ((q ≡ k) × (x ≡ v)) ⊎ (get m q ≡ Some x)
    got_more m k v q x g = grind (arith, get-insert)
