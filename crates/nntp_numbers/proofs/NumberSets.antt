-- Numbers that are kept as their ends and those between them.
use Rattle.std.proofs.Common.{◌≡◌, ◌≢◌, ℕ, ◌<◌, ◌≤◌, true, false, cond, ◌&&◌, ◌||◌, ◌==◌, List, [], ◌∷◌, ◌++◌, Option, None, Some, length, inl, refl, subst}
use Rattle.std.proofs.{Common.{arith}, lemmas.{Bool.{or_right, cases_eq, lt-ltb, le-ltb, eq-eqb, Decides.{nat_tests}}, List.Folds.{list_any-append}}}
use Rattle.std.{proofs.lemmas.Map.Keys.{le_from_not_gt}, specs.{BTreeMap.{is_at}, Borrow.{Bor}, Cmp.{nat_cmp_total, eq_by_cmp_equiv}}}
use Rattle.std.specs.{List.Sorted.{IsStrictlySortedBy}, Option.{option_to_list, option_copied, IfSome}, Ordering.{nat_cmp, is_gt}, Prelude.{nat_lt, nat_le}}
use Rattle.std.specs.{Prelude.{IsTrue, ◌↔◌, unwrap_or, is_some}, declared.cmp.Ordering.TheVariants.{Less}}
use Rattle.nntp_theory.proofs.Members.{In, any_in, all_from, all_both}
use Rattle.nntp_numbers.specs.Inner.{NumberSets.{numbers_in, AreBetween, brought_between}, Part.{join_ends}, Summary.{has, PassSoMany}}
use Rattle.nntp_numbers.specs.declared.{ends.Ends.{Ends}, shown.HowMany.TheVariants.{Single, Several}}

-- ---- the numbers of a list

-- an element is found
pub one_has : (ns : List ℕ) (n : ℕ) → In n ns → has ns n ≡ true
one_has ns n i = any_in (is_at (nat_cmp n)) n ns i ((eq_by_cmp_equiv nat_cmp_total).refl n)

there_is : (ks : List ℕ) (n : ℕ) → has ks n ≡ true → 0 < length ks
there_is [] n t = cc
there_is (k ∷ ks) n t = omega arith

-- ---- in order

-- ascending numbers with further ones above all of these
ascend_both : (xs ys : List ℕ) → IsStrictlySortedBy nat_cmp xs → IsStrictlySortedBy nat_cmp ys → ((n m : ℕ) → has xs n ≡ true → has ys m ≡ true → n < m) → IsStrictlySortedBy nat_cmp (xs ++ ys)
unfolding IsStrictlySortedBy
ascend_both [] ys up more below = more
ascend_both (x ∷ xs) ys up more below =
    let less : (y : ℕ) → In y ys → nat_cmp x y ≡ Less = λ y i. grind (arith, below x y (one_has (x ∷ xs) x (inl refl)) (one_has ys y i), nat_tests) in
    (all_both (λ y. nat_cmp x y ≡ Less) xs ys up.0 (all_from (λ y. nat_cmp x y ≡ Less) ys less), ascend_both xs ys up.1 more (λ n m a b. below n m (or_right (is_at (nat_cmp n) x) (has xs n) a) b))

-- ---- a set

-- a set of the numbers ns keeps these ends and these between them
pub record Keeps (e : Ends) (ks ns : List ℕ) : Type 0 where
  pub order : e.low ≤ e.high
  pub within : (n : ℕ) → has ks n ≡ true → (e.low < n) × (n < e.high)
  pub same : (n : ℕ) → has ns n ≡ (e.low == n || (has ks n || e.high == n))

-- as a method finds it
pub opened : (o : Option Ends) (ks ns : List ℕ) (e : Ends) → AreBetween o ks → numbers_in o ks ≡ ns → o ≡ Some e → Keeps e ks ns
opened o ks ns e are view is = grind (arith, list_any-append, nat_tests)

-- its numbers ascend
ascend : (ends : Option Ends) (ks : List ℕ) → AreBetween ends ks → IsStrictlySortedBy nat_cmp (numbers_in ends ks)
unfolding IsStrictlySortedBy
ascend None ks are = tt
ascend (Some e) ks are =
    let high = option_to_list (cond (nat_lt e.low e.high) (Some e.high) None) in
    ascend_both (e.low ∷ []) (ks ++ high) (tt, tt) (ascend_both ks high are.ascend (grind arith) (grind (arith, are.within.1, nat_tests))) (grind (arith, list_any-append, are.within.1, nat_tests))

pub opened_ascend : (o : Option Ends) (ks ns : List ℕ) → AreBetween o ks → numbers_in o ks ≡ ns → IsStrictlySortedBy nat_cmp ns
opened_ascend o ks ns are view = subst (IsStrictlySortedBy nat_cmp) view (ascend o ks are)

-- ---- one number more

-- the numbers between the ends after the number is brought there, if there is one
abbrev pub Bring : Option ℕ → List ℕ → List ℕ → Type 0
Bring None ks after = after ≡ ks
Bring (Some k) ks after = (m : ℕ) → has after m ≡ cond (is_at (nat_cmp k) m) true (has ks m)

-- the ends with the number, which is both where it is the first
abbrev with_one : Option Ends → ℕ → Option Ends
with_one o n = join_ends o (Some (record { low = n; high = n }))

module _ (o : Option Ends) (ks ns : List ℕ) (n : ℕ) (are : AreBetween o ks) (after : List ℕ) (k : Option ℕ) (brought : k ≡ brought_between o n) (bring : Bring k ks after)
    (ends : Option Ends) (joined : ends ≡ with_one o n) where
  -- the number is found too
  pub grown : numbers_in o ks ≡ ns → (m : ℕ) → has (numbers_in ends after) m ≡ (has ns m || n == m)
  grown view m = grind (arith, list_any-append, nat_tests)

  pub grown_ascend : IsStrictlySortedBy nat_cmp after → IsStrictlySortedBy nat_cmp (numbers_in ends after)
  grown_ascend up = grind (arith, ascend, nat_tests)

-- ---- how many there are

module _ (e : Ends) (ks ns : List ℕ) (is : Keeps e ks ns) where
  -- none is outside the marks exactly if the high end isn't, where the low end isn't below them
  pub outside_none : (low high : ℕ) → low ≤ e.low → IsTrue (nat_le e.high high) ↔ ((n : ℕ) → has ns n ≡ true → (nat_lt n low || nat_lt high n) ≡ false)
  outside_none low high above = grind (arith, is.same e.high, eq-eqb, is.within, is.order, nat_tests)

  pub one_kept : e.low ≡ e.high → PassSoMany (has ns) Single
  one_kept same = grind (arith, is.same e.low, eq-eqb, is.within, is.order)

  pub several_kept : e.low ≢ e.high → PassSoMany (has ns) Several
  several_kept apart = (e.low, e.high, apart, grind (arith, is.same e.low, eq-eqb), grind (arith, is.same e.high, eq-eqb))

  -- ---- those below k, by the second one

  -- s is the least number beside the low end, or this if there is no other
  pub record IsSecond (s : ℕ) : Type 0 where
    pub there : has ns s ≡ true
    pub next : (n : ℕ) → has ns n ≡ true → n ≢ e.low → s ≤ n
    pub apart : e.low < e.high → e.low < s

  pub second_is : (s : ℕ) (copied : Option ℕ) (first : Option (Bor ℕ)) → s ≡ unwrap_or copied e.high → copied ≡ option_copied first → (0 < length ks → IsTrue (is_some first))
      → IfSome first (λ s. has ks s.now ≡ true) → IfSome first (λ s. (n : ℕ) → has ks n ≡ true → is_gt (nat_cmp s.now n) ≡ false) → IsSecond s
  second_is s copied first is_so same some here least = grind (arith, le_from_not_gt, eq-eqb, there_is)

  module _ (s : ℕ) (second : IsSecond s) (k : ℕ) (below : e.low < k) where
    pub several_below : e.low < s → s < k → PassSoMany (λ n. has ns n && nat_lt n k) Several
    several_below a b = (e.low, s, (λ same. absurd (omega arith)), grind (arith, eq-eqb, lt-ltb), grind (arith, second.there, lt-ltb))

    pub one_below : (e.low < s → k ≤ s) → PassSoMany (λ n. has ns n && nat_lt n k) Single
    one_below far = (e.low, grind (arith, eq-eqb, lt-ltb), λ m t. grind (arith, cases_eq m e.low, second.next m, second.apart, is.within m, is.order, nat_tests))

-- ---- the list

-- with one number
pub listed_one : (o : Option Ends) (ks ns : List ℕ) (e : Ends) → AreBetween o ks → numbers_in o ks ≡ ns → o ≡ Some e → e.high ≤ e.low → ns ≡ e.low ∷ []
listed_one o [] ns e are view is g = grind (arith, opened o [] ns e are view is, le-ltb e.low e.high g)
listed_one o (k ∷ ks) ns e are view is g = grind (arith, (opened o (k ∷ ks) ns e are view is).within k, one_has (k ∷ ks) k (inl refl))
