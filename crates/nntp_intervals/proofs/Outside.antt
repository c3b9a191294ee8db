-- What a set of intervals holds beside the numbers that aren't between two marks.
use Rattle.std.proofs.{Common.{◌≡◌, ℕ, ◌+◌, ◌-◌, ◌^◌, ◌<◌, ◌≤◌, true, false, refl, ap, ◌∙◌, List, ◌++◌, arith}, lemmas.Bool.Decides.{nat_tests}}
use Rattle.std.{proofs.lemmas.List.Folds.{list_any-append}, specs.Prelude.{◌||◌, ◌&&◌, Bool, nat_lt}}
use Rattle.nntp_intervals.specs.Inner.{Intervals.{holds, is_between, Meets}, Outside.{interval_if, outside, is_outside}}

in_interval : (b : Bool) (first last n : ℕ) → holds (interval_if b first last) n ≡ (b && is_between first last n)
in_interval true first last n = grind (arith, nat_tests)
in_interval false first last n = refl

in_outside : (low high n : ℕ) → holds (outside low high) n ≡ is_outside low high n
in_outside low high n =
    list_any-append (λ (i : ℕ × ℕ). is_between i.0 i.1 n) (interval_if (nat_lt 0 low) 0 (low - 1)) (interval_if (nat_lt high (2 ^ 64 - 1)) (high + 1) (2 ^ 64 - 1))
    ∙ grind (arith, nat_tests, in_interval (nat_lt 0 low) 0 (low - 1) n, in_interval (nat_lt high (2 ^ 64 - 1)) (high + 1) (2 ^ 64 - 1) n)

-- n is in a set of intervals and numbers that aren't between two marks
pub in_set : (others : List (ℕ × ℕ)) (low high n : ℕ) → holds (others ++ outside low high) n ≡ (holds others n || is_outside low high n)
in_set others low high n =
    list_any-append (λ (i : ℕ × ℕ). is_between i.0 i.1 n) others (outside low high) ∙ ap (λ b. holds others n || b) (in_outside low high n)

module _ (others : List (ℕ × ℕ)) (low high first last : ℕ) (asc : first ≤ last) where
  -- a range meets the set where it begins below the low mark
  pub low_meets : first < low → Meets (others ++ outside low high) first last
  low_meets lt = (first, omega arith, asc, grind (arith, nat_tests, in_set others low high first))

  -- and where it ends above the high one
  pub high_meets : last < 2 ^ 64 → nat_lt high last ≡ true → Meets (others ++ outside low high) first last
  high_meets small gt = (last, asc, omega arith, grind (arith, nat_tests, in_set others low high last))

-- the numbers that are added come to be outside of the marks
pub marks_moved : (others : List (ℕ × ℕ)) (low high first last low2 high2 : ℕ) → ((n : ℕ) → is_outside low2 high2 n ≡ (is_outside low high n || is_between first last n))
    → (n : ℕ) → holds (others ++ outside low2 high2) n ≡ (holds (others ++ outside low high) n || is_between first last n)
marks_moved others low high first last low2 high2 moved n = grind (arith, in_set others low high n, in_set others low2 high2 n, moved n)
