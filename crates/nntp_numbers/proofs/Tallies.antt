-- How many numbers are shown and wanted, one number more at a time.
use Rattle.std.proofs.Common.{◌≡◌, ℕ, suc, ◌+◌, ◌<◌, Bool, true, false, ◌&&◌, ◌||◌, ◌==◌, List, [], ◌∷◌, take, length, get_or, ap, subst, ◌∙◌, arith, Option}
use Rattle.std.proofs.{Common.{None, Some}, Math.Seq.{take-length}, lemmas.{Bool.{and_parts, or_left, Decides.{nat_tests}}, Grind.{common_steps}}}
use Rattle.std.{proofs.lemmas.List.Folds.{list_any_more}, specs.{Cmp.{nat_cmp_total}, FinMap.{insert, get-insert, len-insert}}}
use Rattle.std.specs.{List.Sorted.{IsStrictlySortedBy}, Ordering.{nat_cmp}, Prelude.{◌⊎◌}}
use Rattle.nntp_numbers.{proofs.MoreAsks.{map_of, in_map_of, len_map_of}, specs.Inner.{Part.{is_end_of, is_one_of}, Summary.{has, PassSoMany, and_one}}}
use Rattle.nntp_numbers.specs.{Inner.Summary.{AreCounted, IsTally}, declared.{ends.Ends.{Ends}, shown.HowMany.{HowMany, TheVariants.{Absent, Single, Several}}}}
use Rattle.nntp_article.specs.Session.Machine.{is_ascending}
use Rattle.nntp_theory.specs.{Given.{wants}, declared.demand.Demand.{Demand, TheVariants.{NotEmpty, OnlyOne}}}

-- ---- how many pass a test

-- as many are wanted, where all are
pub all_wanted : (p : ℕ → Bool) (d : Demand) (w : HowMany) → (d ≡ NotEmpty) ⊎ (d ≡ OnlyOne) → PassSoMany p w → PassSoMany (λ n. p n && wants d n) w
all_wanted p d w is found = grind arith

-- another number is found
pub and_one_found : (p : ℕ → Bool) (n : ℕ) (w : HowMany) → PassSoMany p w → p n ≡ false → PassSoMany (λ m. p m || n == m) (and_one w)
and_one_found p n Absent found fresh = (n, grind (arith, nat_tests), λ m t. grind (arith, found m, nat_tests))
and_one_found p n Single (a, here, once) fresh = (a, n, λ same. grind arith, or_left (p a) (n == a) here, grind (arith, nat_tests))
and_one_found p n Several (a, b, apart, at, bt) fresh = (a, b, apart, or_left (p a) (n == a) at, or_left (p b) (n == b) bt)

-- ---- one number more

-- one more is counted
counted_more : (p : ℕ → Bool) (m c : ℕ) → p m ≡ false → AreCounted p c → AreCounted (λ n. p n || m == n) (c + 1)
counted_more p m c fresh (M, is, as_many) = (insert M m [], λ n. grind (arith, is n, get-insert nat_cmp_total M m [] n, nat_tests), grind (arith, len-insert nat_cmp_total M m [], is m))

pub same_tally : (p q : ℕ → Bool) → ((n : ℕ) → p n ≡ q n) → (d : Demand) (w : HowMany) (c : ℕ) → IsTally p d w c → IsTally q d w c
same_tally p q same d w c t = subst {A = ℕ → Bool} (λ p. IsTally p d w c) (λ i n. same n i) t

-- a fresh number that is wanted
pub tally_wanted : (p : ℕ → Bool) (m : ℕ) (d : Demand) (w : HowMany) (c : ℕ) → p m ≡ false → wants d m ≡ true → IsTally p d w c → IsTally (λ n. p n || m == n) d (and_one w) (c + 1)
tally_wanted p m d w c fresh wanted t = record { found = grind (arith, nat_tests, and_one_found); count = counted_more p m c fresh t.count }

-- or not
pub tally_unwanted : (p : ℕ → Bool) (m : ℕ) (d : Demand) (w : HowMany) (c : ℕ) → p m ≡ false → wants d m ≡ false → IsTally p d w c → IsTally (λ n. p n || m == n) d w (c + 1)
tally_unwanted p m d w c fresh not_wanted t = record { found = grind (arith, nat_tests, t.found); count = counted_more p m c fresh t.count }

-- a number that is there already
pub tally_there : (p : ℕ → Bool) (m : ℕ) (d : Demand) (w : HowMany) (c : ℕ) → p m ≡ true → IsTally p d w c → IsTally (λ n. p n || m == n) d w c
tally_there p m d w c there t = same_tally p (λ n. p n || m == n) (λ n. grind (arith, nat_tests)) d w c t

-- ---- as the code has it

pub or_assoc : (a b c : Bool) → ((a || b) || c) ≡ (a || (b || c))
or_assoc a b c = grind arith

module _ (ns : List ℕ) (d : Demand) where
  -- before the first number of a list
  pub tally_start : (w : HowMany) → IsStrictlySortedBy nat_cmp ns → PassSoMany (λ n. has ns n && wants d n) w → IsTally (λ n. has ns n || is_one_of [] n) d w (length ns)
  tally_start w up found = same_tally (has ns) _ (λ n. grind arith) d w (length ns) (record { found = found; count = (map_of ns, in_map_of ns, len_map_of ns up) })

  -- behind the number at i
  pub tally_step : (xs : List ℕ) (i : ℕ) (w : HowMany) (c : ℕ) → i < length xs → IsTally (λ n. (has ns n || is_one_of (take i xs) n) || get_or xs i 0 == n) d w c
      → IsTally (λ n. has ns n || is_one_of (take (i + 1) xs) n) d w c
  tally_step xs i w c l t = same_tally _ _ (λ n. grind (arith, list_any_more (λ m. n == m) xs i 0 l, nat_tests)) d w c t

  -- behind all of them
  pub tally_end : (xs : List ℕ) (i : ℕ) (w : HowMany) (c : ℕ) → i ≡ length xs → IsTally (λ n. has ns n || is_one_of (take i xs) n) d w c → IsTally (λ n. has ns n || is_one_of xs n) d w c
  tally_end xs i w c e t = subst (λ l. IsTally (λ n. has ns n || is_one_of l n) d w c) (ap (λ i. take i xs) e ∙ take-length xs) t

-- with no ends
pub tally_no_ends : (p : ℕ → Bool) (o : Option Ends) → o ≡ None → (d : Demand) (w : HowMany) (c : ℕ) → IsTally p d w c → IsTally (λ n. p n || is_end_of o n) d w c
tally_no_ends p o is d w c t = same_tally p _ (λ n. grind arith) d w c t

-- with both ends
pub tally_ends : (p : ℕ → Bool) (o : Option Ends) (e : Ends) → o ≡ Some e → (d : Demand) (w : HowMany) (c : ℕ)
    → IsTally (λ n. (p n || e.low == n) || e.high == n) d w c → IsTally (λ n. p n || is_end_of o n) d w c
tally_ends p o e is d w c t = same_tally _ _ (λ n. grind arith) d w c t

-- no number comes twice
fresh : (xs : List ℕ) (i : ℕ) → is_ascending xs ≡ true → i < length xs → is_one_of (take i xs) (get_or xs i 0) ≡ false
fresh (x ∷ xs) (suc i) up l = grind (arith, and_parts, common_steps, fresh xs i, nat_tests)
fresh xs i up l = grind arith

-- so the number at i is there if it was there before the list
pub there_if : (has : ℕ → Bool) (xs : List ℕ) (i : ℕ) → is_ascending xs ≡ true → i < length xs → has (get_or xs i 0) ≡ (has (get_or xs i 0) || is_one_of (take i xs) (get_or xs i 0))
there_if has xs i up l = grind (arith, fresh xs i)
