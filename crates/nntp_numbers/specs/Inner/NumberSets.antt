-- What the values of src/number_set.rt and src/ascending_numbers.rt mean.
use Rattle.std.specs.Prelude.{◌≡◌, ℕ, ◌<◌, ◌≤◌, true, ◌&&◌, nat_lt, min, max, if◌then◌else◌, List, [], ◌∷◌, ◌++◌, Option, None, Some}
use Rattle.std.specs.{List.Sorted.{IsStrictlySortedBy}, Option.{option_to_list}, Ordering.{nat_cmp}}
use Rattle.nntp_numbers.specs.{declared.ends.Ends.{Ends}, Inner.Summary.{has}}

-- the high end, where it isn't the low one too
abbrev pub other_end : Ends → Option ℕ
other_end e = if nat_lt e.low e.high then Some e.high else None

-- the numbers that have these ends, if there are any, and these between them
abbrev pub numbers_in : Option Ends → List ℕ → List ℕ
numbers_in None between = []
numbers_in (Some e) between = e.low ∷ (between ++ option_to_list (other_end e))

-- the numbers of which the first, those in the middle and the last are left
abbrev pub numbers_left : Option ℕ → List ℕ → Option ℕ → List ℕ
numbers_left low between high = option_to_list low ++ between ++ option_to_list high

-- the ends are in order, and all of these numbers are between them
abbrev pub AreWithin : Option Ends → List ℕ → Type 0
AreWithin None between = between ≡ []
AreWithin (Some e) between = (e.low ≤ e.high) × ((n : ℕ) → has between n ≡ true → (e.low < n) × (n < e.high))

-- these are the ends, if there are any, and the ascending numbers between them
pub record AreBetween (ends : Option Ends) (between : List ℕ) : Type 0 where
  pub ascend : IsStrictlySortedBy nat_cmp between
  pub within : AreWithin ends between

-- the number that is between the ends once n is one of the numbers, if it brings one there: n, or the end whose place it takes
abbrev pub brought_between : Option Ends → ℕ → Option ℕ
brought_between None n = None
brought_between (Some e) n = let middle = min (max n e.low) e.high in if nat_lt (min e.low n) middle && nat_lt middle (max e.high n) then Some middle else None
