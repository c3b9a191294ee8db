-- The last interval that begins at a number or before it.
use Rattle.std.proofs.Common.{◌≡◌, ℕ, ◌+◌, ◌<◌, ◌≤◌, false, Option, None, Some, IsSome, List, [], ◌∷◌, ◌++◌, refl, sym, ap, subst, ◌∙◌, arith}
use Rattle.std.{proofs.lemmas.Bool.{false_from_ne_true, Decides.{nat_tests}}, specs.{Ordering.{nat_cmp}, BTreeMap.{BTreeMap, IsOrdered, Range.{IsRangeOf}}}}
use Rattle.std.specs.declared.ops.Bound.TheVariants.{Included, Unbounded}
use Rattle.nntp_intervals.{specs.Inner.{Intervals.{holds, AreApart}, Neighbours.{IsLastUpTo, IsFreeBefore, IsFreeUpTo}}, proofs.LookUps.{last_at, Ascends}}
use Rattle.nntp_intervals.proofs.LookUps.{Holder, Apart, held_from, held_at, apart_at}

some_none : {A : Type 0} (o : Option A) (x : A) → o ≡ None → o ≡ Some x → ⊥
some_none o x none some = cc

is_some : {A : Type 0} (o : Option A) (x : A) → o ≡ Some x → IsSome o
is_some o x some = subst IsSome (sym some) refl

module _ (set : List (ℕ × ℕ)) (up : Ascends set) where
  free_of : (n : ℕ) → (Holder set n → ⊥) → holds set n ≡ false
  free_of n none = false_from_ne_true (holds set n) (λ t. none (held_at set n up t))

  module _ (apart : Apart (last_at set)) (n k v : ℕ) (at : last_at set k ≡ Some v) (le : k ≤ n) (greatest : (q : ℕ) → q ≤ n → IsSome (last_at set q) → q ≤ k) where
    ascends : k ≤ v
    ascends = (apart.interval k v at).0

    before : IsFreeBefore set k
    before m is = free_of m (λ (s, e, here, lo, hi). grind (arith, apart.apart s e k v here at))

    same : (s e : ℕ) → s ≡ k → last_at set s ≡ Some e → e ≡ v
    same s e is here = let there : last_at set s ≡ Some v = ap (last_at set) is ∙ at in cc

    beside : holds set (v + 1) ≡ false
    beside = free_of (v + 1) (λ (s, e, here, lo, hi). let asc = ascends in
        grind (arith, apart.apart s e k v here at, apart.apart k v s e at here, same s e))

    beyond : (m : ℕ) → v < m → m ≤ n → holds set m ≡ false
    beyond m lt m_le = free_of m (λ (s, e, here, lo, hi). let asc = ascends in let some = is_some (last_at set s) e here in
        grind (arith, greatest s, apart.apart s e k v here at, same s e))

    up_to : IsLastUpTo set n k v
    up_to = record {
      begins = le;
      ascends = ascends;
      held = λ m lo hi. held_from set k v m at lo hi;
      free_before = before;
      free_behind = beside;
      free_up_to = beyond;
    }

-- from what std says of a range up to n
module _ (map : BTreeMap ℕ ℕ) (n : ℕ) (r : List (ℕ × ℕ)) (is : IsRangeOf nat_cmp Unbounded (Included n) map r) (up : IsOrdered nat_cmp map) where
  pub last_up_to : (k v : ℕ) (rest : List (ℕ × ℕ)) → AreApart map.entries → r ≡ rest ++ (k, v) ∷ [] → IsLastUpTo map.entries n k v
  last_up_to k v rest apart e =
      let here = is.3 (k, v) rest e in
      up_to map.entries up (apart_at map.entries apart) n k v here.1 (grind (arith, nat_tests, here.0.1))
      (λ q q_le some. let above = is.4 (k, v) rest e q (tt, grind (arith, nat_tests)) some in grind (arith, nat_tests))

  pub none_up_to : r ≡ [] → IsFreeUpTo map.entries n
  none_up_to e m le = free_of map.entries up m (λ (s, f, here, lo, hi). let s_le : s ≤ n = omega arith in some_none (last_at map.entries s) f (is.5 e s (tt, grind (arith, nat_tests))) here)
