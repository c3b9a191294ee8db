-- Entries that come in the order of their keys, as the text of a spool has them, and the greatest key.
use Rattle.std.proofs.Common.{◌≡◌, ℕ, ◌-◌, ◌≤◌, Bool, true, false, cond, None, Some, is_some, option_map, List, [], ◌∷◌, ◌++◌, map, length, drop, refl, sym, ap}
use Rattle.std.proofs.{Common.{◌∙◌, arith}, lemmas.{Bool.{true≢false, and_parts, Decides.{nat_tests}}, Option.{slice_get-get_or}, List.{append_assoc}}}
use Rattle.std.{proofs.lemmas.List.{map-append, Elements.{recursion_from_All}}, specs.{Prelude.{nat_lt, ◌==◌, ◌&&◌}, declared.cmp.Ordering.{Ordering}}}
use Rattle.std.specs.{declared.cmp.Ordering.TheVariants.{Less, Equal, Greater}, Ordering.{is_lt, is_eq}, Cmp.{IsTotalOrder, both_ways, nat_cmp_total}}
use Rattle.std.specs.{List.{All, AllByRecursion, slice_get, list_all}, Map.{lookup, keys_of}, FinMap.{FinMap, get, insert, entries, is_sorted, entries_sorted}}
use Rattle.std.specs.{FinMap.{same_entries_map, get-from_entries, IsAntisymmetric, nat_cmp-IsAntisymmetric, Entries.{below_all}}, BTreeMap.{insert_entry}}
use Rattle.nntp_article.{specs.{Session.Spool.{Numbers, IsNumber}, Inner.ShownMap.{shown, shown_entry}}, proofs.ShownMaps.{get-shown, entries-ascending}}
use Rattle.nntp_content.{specs.Ascending.{is_last}, proofs.MapEntries.{is_passed, less_is, value_of_some, entries-insert_last, placed, all_found, test_each}}

-- a list with a first element, with a last one, and without
pub first_is : {X : Type 0} (xs : List X) (x : X) → Some x ≡ slice_get xs 0 → xs ≡ x ∷ drop 1 xs
first_is xs x is = grind arith

pub last_is : {X : Type 0} (xs : List X) (x : X) → Some x ≡ slice_get xs (length xs - 1) → (front : List X) × (xs ≡ front ++ x ∷ [])
last_is (y ∷ z ∷ xs) x is = let rest = last_is (z ∷ xs) x (is ∙ grind arith) in (y ∷ rest.0, ap (λ zs. y ∷ zs) rest.1)
last_is xs x is = grind arith

pub nothing : {X : Type 0} (xs : List X) → None ≡ slice_get xs 0 → xs ≡ []
nothing [] e = refl
nothing (x ∷ xs) e = absurd cc

pub none_listed : {X : Type 0} (xs : List X) → None ≡ slice_get xs (length xs - 1) → xs ≡ []
none_listed [] e = refl
none_listed (x ∷ xs) e = absurd (let no : None ≡ Some _ = e ∙ slice_get-get_or (x ∷ xs) (length (x ∷ xs) - 1) x (omega arith) in cc)

-- what is not above the greatest is below what the greatest is below
below : {K : Type 0} {R : K → K → Ordering} → IsTotalOrder R → (g q k : K) → is_lt (R g q) ≡ false → is_lt (R g k) ≡ true → is_lt (R q k) ≡ true
below o g q k above less = grind arith

module _ {K X : Type 0} {R : K → K → Ordering} (o : IsTotalOrder R) where
  -- of keys that ascend, the last is the greatest
  last_of : (es : List (K × X)) (g : K × X) (k : K) → list_all (λ e. is_lt (R e.0 g.0)) es ≡ true → is_lt (R g.0 k) ≡ list_all (λ e. is_lt (R e.0 k)) (es ++ g ∷ [])
  last_of [] g k less = grind arith
  last_of (e ∷ es) g k less = grind (arith, and_parts, less_is, true≢false, last_of es g k)

  module _ (same : IsAntisymmetric R) where
    -- a key is above all others where it is above the greatest, or where there is none
    pub above_greatest : (m : FinMap R X) (g k : K) (x : X) → get m g ≡ Some x → ((q : K) (y : X) → get m q ≡ Some y → is_lt (R g q) ≡ false) → is_lt (R g k) ≡ is_last m k
    above_greatest m g k x here most =
        let each = test_each o same (λ q y. is_lt (R q k)) m in
        both_ways (is_lt (R g k)) (is_last m k) (λ less. each.1 (λ q y f. below o g q k (most q y f) less)) (λ last. each.0 last g x here)

    pub none_last : (m : FinMap R X) (k : K) → ((q : K) → get m q ≡ None) → true ≡ is_last m k
    none_last m k none = sym ((test_each o same (λ q y. is_lt (R q k)) m).1 (λ q y f. absurd (let no : None ≡ Some y = sym (none q) ∙ f in cc)))

module _ {L V K X : Type 0} (R : K → K → Ordering) (key : L → K) (value : V → X) (o : IsTotalOrder R) (same : IsAntisymmetric R) where
  -- a key is greater than all others where it is greater than the last
  pub last_listed : (es : List (L × V)) (m : FinMap R X) (l : L × V) (k : K) → is_sorted R (map (shown_entry key value) es) ≡ true → shown R key value es ≡ m
      → Some l ≡ slice_get es (length es - 1) → is_lt (R (key l.0) k) ≡ is_last m k
  last_listed es m l k sorted is e =
      let shows = shown_entry key value in
      let at_end = last_is es l e in
      let front = map shows at_end.0 in
      let listed : entries m ≡ front ++ shows l ∷ [] =
      ap entries (sym is) ∙ entries-ascending R key value o same es sorted ∙ ap (map shows) at_end.1 ∙ map-append shows at_end.0 (l ∷ []) in
      last_of o front (shows l) k (placed o m front (shows l) [] listed).0 ∙ ap (list_all (λ e. is_lt (R e.0 k))) (sym listed)

  -- an entry behind all others
  pub one_more : (es fs : List (L × V)) (l : L) (v : V) → is_sorted R (map (shown_entry key value) es) ≡ true → is_last (shown R key value es) (key l) ≡ true → fs ≡ es ++ (l, v) ∷ []
      → (is_sorted R (map (shown_entry key value) fs) ≡ true) × (shown R key value fs ≡ insert (shown R key value es) (key l) (value v))
  one_more es fs l v sorted last e =
      let shows = shown_entry key value in
      let m = insert (shown R key value es) (key l) (value v) in
      let listed : entries m ≡ map shows fs = grind (arith, entries-insert_last, entries-ascending, map-append) in
      let rises : is_sorted R (map shows fs) ≡ true = ap (is_sorted R) (sym listed) ∙ is_passed _ (entries_sorted m) in
      (rises, same_entries_map (shown R key value fs) m (entries-ascending R key value o same fs rises ∙ sym listed))

  -- the order of the keys in code is that of what they show
  below_listed : (l : L) (es : List (L × V)) → below_all (λ a b. R (key a) (key b)) l es ≡ below_all R (key l) (map (shown_entry key value) es)
  below_listed l [] = refl
  below_listed l (e ∷ es) = ap (λ b. is_lt (R (key l) (key e.0)) && b) (below_listed l es)

  pub sorted_listed : (es : List (L × V)) → is_sorted R (map (shown_entry key value) es) ≡ true → is_sorted (λ a b. R (key a) (key b)) es ≡ true
  sorted_listed [] h = refl
  sorted_listed (e ∷ es) h = rw (below_listed e.0 es) (grind (arith, and_parts, sorted_listed es))

  -- the greatest key of what a `BTreeMap` shows
  each_shown : (P : K → Type 0) (es : List (L × V)) → AllByRecursion (λ l. P (key l)) (keys_of es) → AllByRecursion (λ e. P e.0) (map (shown_entry key value) es)
  each_shown P [] all = tt
  each_shown P (e ∷ es) all = (all.0, each_shown P es all.1)

  pub last_shown : (es : List (L × V)) (m : FinMap R X) (l : L) (v : V) (k : K) → shown R key value es ≡ m
      → lookup (λ e. is_eq (R (key l) (key e))) es ≡ Some v → All (λ q. is_lt (R (key l) (key q)) ≡ false) (keys_of es)
      → is_lt (R (key l) k) ≡ is_last m k
  last_shown es m l v k is here most =
      above_greatest o same m (key l) k (value v) (ap (λ m. get m (key l)) (sym is) ∙ get-shown R key value o es (key l) ∙ ap (option_map value) here)
      (λ q y f. all_found o same (λ q y. is_lt (R (key l) q) ≡ false) (map (shown_entry key value) es)
      (each_shown (λ q. is_lt (R (key l) q) ≡ false) es (recursion_from_All (λ q. is_lt (R (key l) (key q)) ≡ false) (keys_of es) most)) q y (sym (get-from_entries o _ q) ∙ ap (λ m. get m q) is ∙ f))

  pub none_shown : (es : List (L × V)) (m : FinMap R X) (k : K) → shown R key value es ≡ m → es ≡ [] → true ≡ is_last m k
  none_shown es m k is e = grind (arith, none_last, get-shown, option_map)

-- ---- numbers

less_first : (a b : Bool) → a ≡ is_lt (cond a Less (cond b Equal Greater))
less_first a b = grind arith

pub last_number : (N : Numbers) (g k : ℕ) → IsNumber N g → ((q : ℕ) → IsNumber N q → q ≤ g) → nat_lt g k ≡ is_last N k
last_number N g k here most =
    let found = value_of_some (get N g) here in
    less_first (nat_lt g k) (g == k) ∙ above_greatest nat_cmp_total nat_cmp-IsAntisymmetric N g k found.0 found.1 (λ q y f. let le : q ≤ g = most q (ap is_some f) in grind (arith, nat_tests))

-- ---- a map that is filled from the greatest key down

module _ {K X : Type 0} (R : K → K → Ordering) where
  behind : (xs ys : List (K × X)) → is_sorted R (xs ++ ys) ≡ true → is_sorted R ys ≡ true
  behind [] ys h = h
  behind (x ∷ xs) ys h = behind xs ys (and_parts (below_all R x.0 (xs ++ ys)) (is_sorted R (xs ++ ys)) h).1

  in_front : (e : K × X) (es : List (K × X)) → is_sorted R (e ∷ es) ≡ true → insert_entry R es e.0 e.1 ≡ e ∷ es
  in_front e [] h = refl
  in_front e (f ∷ es) h = grind arith

  -- the last entry of those that are left goes in front of those that are in the map
  pub one_down : (all before left es fs : List (K × X)) (e : K × X) → is_sorted R all ≡ true → before ++ es ≡ all → before ≡ left ++ e ∷ [] → fs ≡ insert_entry R es e.0 e.1 → left ++ fs ≡ all
  one_down all before left es fs e sorted so_far step put = grind (arith, append_assoc, in_front, behind)
