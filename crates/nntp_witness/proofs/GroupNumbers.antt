-- The numbers of a group that are given: they ascend, and are those that the given spool has in it.
use Rattle.std.proofs.Common.{◌≡◌, ◌≢◌, ℕ, ◌<◌, ◌≤◌, ◌⊎◌, cond, ◌==◌, IsTrue, List, [], ◌∷◌, ◌++◌, map, Option, None, Some, is_some, IsSome, inl, inr, refl}
use Rattle.std.proofs.{Common.{sym, ap, subst, ◌∙◌, arith}, lemmas.{Bool.{true≢false, eq-eqb, eqb-true, lt-ltb, cases_lt}, Cmp.{tied_itself}}}
use Rattle.std.specs.{Prelude.{IsFalse, IfSome}, List.{AllByRecursion, Sorted.{IsStrictlySortedBy}}, declared.cmp.Ordering.{Ordering, TheVariants.{Less}}}
use Rattle.std.specs.{declared.cmp.Ordering.TheVariants.{Equal, Greater}, Ordering.{nat_cmp}, Cmp.{IsTotalOrder, nat_cmp_total}, FinMap.{FinMap, get, keys}}
use Rattle.std.specs.FinMap.{entries, entries_sorted, IsAntisymmetric, nat_cmp-IsAntisymmetric}
use Rattle.nntp_article.specs.{Article.Parts.{Id}, Session.Spool.{Spool, IsGroup, numbers}}
use Rattle.nntp_said.specs.{Asks.{Ask}, Facts.{Fact}}
use Rattle.nntp_theory.specs.{Given.{asks_of, is_shown, IsGivenNumber, id_shown, IsGiven}, Inner.Unseen.{IsLeastGiven, IsGreatestGiven}}
use Rattle.nntp_theory.proofs.{Maps.{sorted_keys, key_of, of_key}, Members.{In, all_at, all_from, all_both, any_in, found_in, in_map, from_map, in_front}}
use Rattle.nntp_theory.proofs.{Members.{in_back, in_cases}, Ids.OnePlaceOfAnId.{shown_with_id}}
use Rattle.nntp_kept.specs.Inner.Readers.{ShownGroup, HasShownNumbers}
use Rattle.nntp_witness.specs.Inner.Making.{unseen_number, given_numbers}

-- ---- lists in order as the keys of a map

module _ {K : Type 0} {R : K → K → Ordering} (o : IsTotalOrder R) where
  -- nothing comes before itself
  not_itself : (x : K) → R x x ≡ Less → ⊥
  not_itself x e = let same = tied_itself o x in cc

  -- the first of a list in order is below the others
  first_below : (x y : K) (xs : List K) → AllByRecursion (λ z. R x z ≡ Less) xs → In y xs → x ≡ y → ⊥
  first_below x y xs h i e = not_itself x (subst (λ z. R x z ≡ Less) (sym e) (all_at (λ z. R x z ≡ Less) y xs h i))

  -- two lists in order start alike
  same_first : (x y : K) (xs ys : List K) → AllByRecursion (λ z. R x z ≡ Less) xs → AllByRecursion (λ z. R y z ≡ Less) ys → In x (y ∷ ys) → In y (x ∷ xs) → x ≡ y
  same_first x y xs ys h g z j = grind (arith, not_itself, all_at)

  -- an element that isn't the first is one of the others
  of_others : (x y : K) (ys : List K) → (x ≡ y → ⊥) → In y (x ∷ ys) → In y ys
  of_others x y ys ne z = grind arith

  -- lists in order that have the same elements are one
  pub same_in_order : (xs ys : List K) → IsStrictlySortedBy R xs → IsStrictlySortedBy R ys → ((q : K) → In q xs → In q ys) → ((q : K) → In q ys → In q xs) → xs ≡ ys
  unfolding IsStrictlySortedBy
  same_in_order [] [] h g there back = refl
  same_in_order [] (y ∷ ys) h g there back = absurd (back y (inl refl))
  same_in_order (x ∷ xs) [] h g there back = absurd (there x (inl refl))
  same_in_order (x ∷ xs) (y ∷ ys) h g there back = grind (arith, same_first, of_others, first_below, same_in_order xs ys h.1 g.1)

  -- a list in order that has the keys of a map, and no others, is the list of its keys
  pub keys_listed : {X : Type 0} → IsAntisymmetric R → (ks : List K) (m : FinMap R X) → IsStrictlySortedBy R ks
      → ((q : K) → In q ks → IsSome (get m q)) → ((q : K) → IsSome (get m q) → In q ks) → ks ≡ keys m
  keys_listed same ks m sorted there back =
      same_in_order ks (keys m) sorted (sorted_keys R (entries m) (entries_sorted m)) (λ q i. key_of o same m q (there q i)) (λ q i. back q (of_key o same m q i))

-- ---- lists in order, one behind the other

-- a number below another comes before it
before : (a b : ℕ) → a < b → nat_cmp a b ≡ Less
before a b l = ap (λ t. cond t Less (cond (a == b) Equal Greater)) (lt-ltb a b l)

-- where the numbers of one are below those of the other, both ascend
joined_ascend : (xs ys : List (ℕ × Option Id)) → IsStrictlySortedBy nat_cmp (map (λ e. e.0) xs)
    → IsStrictlySortedBy nat_cmp (map (λ e. e.0) ys) → ((x y : ℕ × Option Id) → In x xs → In y ys → x.0 < y.0)
    → IsStrictlySortedBy nat_cmp (map (λ e. e.0) (xs ++ ys))
unfolding IsStrictlySortedBy
joined_ascend [] ys h g below = g
joined_ascend (x ∷ xs) ys h g below = (all_from (λ q. nat_cmp x.0 q ≡ Less) (map (λ (e : ℕ × Option Id). e.0) (xs ++ ys)) behind, joined_ascend xs ys h.1 g (λ a b i j. below a b (inr i) j))
  where
    behind : (q : ℕ) → In q (map (λ (e : ℕ × Option Id). e.0) (xs ++ ys)) → nat_cmp x.0 q ≡ Less
    behind q i =
        let f = from_map (λ (e : ℕ × Option Id). e.0) q (xs ++ ys) i in
        subst (λ n. nat_cmp x.0 n ≡ Less) f.2 (elim (in_cases f.0 xs ys f.1) [
          | inl j ↦ all_at (λ n. nat_cmp x.0 n ≡ Less) f.0.0 (map (λ (e : ℕ × Option Id). e.0) xs) h.0 (in_map (λ (e : ℕ × Option Id). e.0) f.0 xs j)
          | inr j ↦ before x.0 f.0.0 (below x f.0 (inl refl) j)
        ])

-- one number ascends
one_ascends : (unseen : Option ℕ) → IsStrictlySortedBy nat_cmp (map (λ e. e.0) (unseen_number unseen))
unfolding IsStrictlySortedBy
one_ascends unseen = grind arith

-- what is there of a number that isn't shown
of_unseen : (unseen : Option ℕ) (e : ℕ × Option Id) → In e (unseen_number unseen) → (unseen ≡ Some e.0) × (e.1 ≡ None)
of_unseen unseen e i = grind arith

-- ---- the numbers that are shown

-- a number in the list is shown
listed_shown : (facts : List Fact) (g : ShownGroup) (n : ℕ) → HasShownNumbers facts g → In n (map (λ e. e.0) g.numbers) → IsTrue (is_shown (asks_of g.name facts) n)
listed_shown facts g n h i = grind (arith, from_map, any_in, eq-eqb)

-- and back
shown_listed : (facts : List Fact) (g : ShownGroup) (n : ℕ) → HasShownNumbers facts g → IsTrue (is_shown (asks_of g.name facts) n) → In n (map (λ e. e.0) g.numbers)
shown_listed facts g n h t = grind (arith, found_in, eqb-true, in_map)

-- ---- the given numbers

module _ (facts : List Fact) (g : ShownGroup) (h : HasShownNumbers facts g) where
  -- what is asked of the group
  abbrev asked : List Ask
  asked = asks_of g.name facts

  -- what is so of the least, where it isn't shown
  least : (n : ℕ) → g.unseen ≡ Some n → IsFalse (is_shown asked n) × IsLeastGiven asked n
  least n e = subst (λ o. IfSome o (λ n. IsFalse (is_shown asked n) × IsLeastGiven asked n)) e h.unseen.least

  -- and of the greatest, where it is neither
  greatest : (n : ℕ) → g.unseen_high ≡ Some n → IsFalse (is_shown asked n) × IsGreatestGiven asked n × ¬ (IsLeastGiven asked n)
  greatest n e = subst (λ o. IfSome o (λ n. IsFalse (is_shown asked n) × IsGreatestGiven asked n × ¬ (IsLeastGiven asked n))) e h.unseen.greatest

  -- a number that is shown is another than one that isn't
  other_shown : (n m : ℕ) → IsTrue (is_shown asked n) → IsFalse (is_shown asked m) → n ≢ m
  other_shown n m t f same = true≢false (sym t ∙ ap (is_shown asked) same ∙ f)

  -- one of the list is shown
  entry_shown : (e : ℕ × Option Id) → In e g.numbers → IsTrue (is_shown asked e.0)
  entry_shown e i = listed_shown facts g e.0 h (in_map (λ (e : ℕ × Option Id). e.0) e g.numbers i)

  -- and given
  given_shown : (n : ℕ) → IsTrue (is_shown asked n) → IsGivenNumber asked n
  given_shown n t = (h.unseen.given n).1 (inl t)

  -- a number from another on that isn't that is above it
  above : (n m : ℕ) → n ≤ m → n ≢ m → n < m
  above n m le ne = elim (cases_lt n m) [ inl l ↦ l | inr ge ↦ absurd (ne (omega arith)) ]

  -- the shown ones are below the greatest
  shown_below : (x y : ℕ × Option Id) → In x g.numbers → In y (unseen_number g.unseen_high) → x.0 < y.0
  shown_below x y i j =
      let t = entry_shown x i in
      grind (arith, greatest, of_unseen, above, given_shown, other_shown)

  -- and the least is below both
  least_below : (x y : ℕ × Option Id) → In x (unseen_number g.unseen) → In y (g.numbers ++ unseen_number g.unseen_high) → x.0 < y.0
  least_below x y i j = elim (in_cases y g.numbers (unseen_number g.unseen_high) j) [
    | inl shown ↦ (let t = entry_shown y shown in above x.0 y.0 (low.1.1 y.0 (given_shown y.0 t)) (λ same. other_shown y.0 x.0 t low.0 (sym same)))
    | inr last ↦ (
        let top = greatest y.0 (of_unseen g.unseen_high y last).0 in
        above x.0 y.0 (low.1.1 y.0 top.1.0) (λ same. top.2 (subst (IsLeastGiven asked) same low.1)))
  ]
    where
      low : IsFalse (is_shown asked x.0) × IsLeastGiven asked x.0
      low = least x.0 (of_unseen g.unseen x i).0

  -- the given numbers ascend
  pub given_ascends : IsStrictlySortedBy nat_cmp (map (λ e. e.0) (given_numbers g))
  given_ascends = search (joined_ascend, one_ascends, shown_below, least_below)

  -- no id is shown for a number that isn't shown
  no_id : (n : ℕ) → IsFalse (is_shown asked n) → (o : Option Id) → id_shown facts g.name n ≡ o → None ≡ id_shown facts g.name n
  no_id n f None e = sym e
  no_id n f (Some id) e = absurd (true≢false (sym (shown_with_id facts g.name n (ap is_some e)) ∙ f))

  -- so a number that isn't shown has the id that is shown for it
  unseen_id : (unseen : Option ℕ) → ((n : ℕ) → unseen ≡ Some n → IsFalse (is_shown asked n)) → AllByRecursion (λ e. e.1 ≡ id_shown facts g.name e.0) (unseen_number unseen)
  unseen_id None f = tt
  unseen_id (Some n) f = (no_id n (f n refl) (id_shown facts g.name n) refl, tt)

  -- each has the id that is shown for it, if one is
  pub given_ids : AllByRecursion (λ e. e.1 ≡ id_shown facts g.name e.0) (given_numbers g)
  given_ids = grind (arith, all_both, unseen_id, least, greatest)

  -- each of them is given
  given_each : (n : ℕ) → In n (map (λ e. e.0) (given_numbers g)) → IsGivenNumber asked n
  given_each n i =
      let f = from_map (λ (e : ℕ × Option Id). e.0) n (given_numbers g) i in
      subst (IsGivenNumber asked) f.2 (elim (in_cases f.0 (unseen_number g.unseen) (g.numbers ++ unseen_number g.unseen_high) f.1) [
        | inl low ↦ (least f.0.0 (of_unseen g.unseen f.0 low).0).1.0
        | inr more ↦ elim (in_cases f.0 g.numbers (unseen_number g.unseen_high) more) [
          | inl shown ↦ given_shown f.0.0 (entry_shown f.0 shown)
          | inr high ↦ (greatest f.0.0 (of_unseen g.unseen_high f.0 high).0).1.0
        ]
      ])

  -- a number that isn't shown is listed
  unseen_listed : (unseen : Option ℕ) (n : ℕ) → unseen ≡ Some n → In (n, None) (unseen_number unseen)
  unseen_listed unseen n e = subst (λ o. In (n, None) (unseen_number o)) (sym e) (inl refl)

  -- and each that is given is one of them
  each_given : (n : ℕ) → IsGivenNumber asked n → In n (map (λ e. e.0) (given_numbers g))
  each_given n i = by ((h.unseen.given n).0 i)
    where
      here : (e : ℕ × Option Id) → In e (given_numbers g) → In e.0 (map (λ (e : ℕ × Option Id). e.0) (given_numbers g))
      here e j = in_map (λ (e : ℕ × Option Id). e.0) e (given_numbers g) j

      behind : (e : ℕ × Option Id) → In e (g.numbers ++ unseen_number g.unseen_high) → In e.0 (map (λ (e : ℕ × Option Id). e.0) (given_numbers g))
      behind e j = here e (in_back e (unseen_number g.unseen) (g.numbers ++ unseen_number g.unseen_high) j)

      by : IsTrue (is_shown asked n) ⊎ (g.unseen ≡ Some n) ⊎ (g.unseen_high ≡ Some n) → In n (map (λ (e : ℕ × Option Id). e.0) (given_numbers g))
      by (inl t) =
          let f = from_map (λ (e : ℕ × Option Id). e.0) n g.numbers (shown_listed facts g n h t) in
          subst (λ m. In m (map (λ (e : ℕ × Option Id). e.0) (given_numbers g))) f.2 (behind f.0 (in_front f.0 g.numbers (unseen_number g.unseen_high) f.1))
      by (inr (inl low)) = here (n, None) (in_front (n, None) (unseen_number g.unseen) (g.numbers ++ unseen_number g.unseen_high) (unseen_listed g.unseen n low))
      by (inr (inr high)) = behind (n, None) (in_back (n, None) g.numbers (unseen_number g.unseen_high) (unseen_listed g.unseen_high n high))

  -- they are the numbers of the group in the given spool
  pub given_keys : (G : Spool) → IsGiven facts G → IsGroup G g.name → map (λ e. e.0) (given_numbers g) ≡ keys (numbers G g.name)
  given_keys G given is_group = grind (arith, keys_listed, nat_cmp_total, nat_cmp-IsAntisymmetric, given_ascends, given_each, each_given)
