-- What is kept of a group of which it is said alone that no number is below low or above high.
use Rattle.std.specs.{Prelude.{◌≡◌, ℕ}, FinMap.{empty}}
use Rattle.nntp_numbers.specs.Inner.Between.{numbers_between}
use Rattle.nntp_kept.specs.Inner.Kept.{KeptGroup}

-- of the group
abbrev pub group_between : ℕ → ℕ → KeptGroup
group_between low high = record { numbers = numbers_between low high; ids = empty; places = empty }

-- there are such marks
abbrev pub IsBetween : KeptGroup → Type 0
IsBetween g = (low : ℕ) × (high : ℕ) × (g ≡ group_between low high)
