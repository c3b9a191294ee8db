-- Sets of numbers as intervals, each given by its first and its last number.
use Rattle.std.specs.{Prelude.{◌≡◌, ℕ, ◌+◌, ◌^◌, ◌<◌, ◌≤◌, Bool, true, false, ◌&&◌, List, [], ◌∷◌, nat_le, IsTrue}, List.{list_any, AllByRecursion}}

-- n is one of the numbers from first to last
abbrev pub is_between : ℕ → ℕ → ℕ → Bool
is_between first last n = nat_le first n && nat_le n last

-- n is in one of the intervals
abbrev pub holds : List (ℕ × ℕ) → ℕ → Bool
holds set n = list_any (λ i. is_between i.0 i.1 n) set

-- an interval of numbers of 64 bits
abbrev pub IsInterval : ℕ × ℕ → Type 0
IsInterval i = (i.0 ≤ i.1) × (i.1 < 2 ^ 64)

-- the intervals ascend, and between two of them there is a number that is in neither
abbrev pub AreApart : List (ℕ × ℕ) → Type 0
AreApart [] = Unit {0}
AreApart (i ∷ is) = IsInterval i × AllByRecursion (λ later. i.1 + 1 < later.0) is × AreApart is

-- the least number from n on that is not in the set
abbrev pub IsLeastFree : List (ℕ × ℕ) → ℕ → ℕ → Type 0
IsLeastFree set n free = (n ≤ free) × (holds set free ≡ false) × ((m : ℕ) → n ≤ m → m < free → holds set m ≡ true)

-- each number from n on is in the set
abbrev pub IsFullFrom : List (ℕ × ℕ) → ℕ → Type 0
IsFullFrom set n = (m : ℕ) → n ≤ m → m < 2 ^ 64 → holds set m ≡ true

-- each number from first to last is in the set
abbrev pub Covers : List (ℕ × ℕ) → ℕ → ℕ → Type 0
Covers set first last = (n : ℕ) → first ≤ n → n ≤ last → holds set n ≡ true

-- some number from first to last is in the set
abbrev pub Meets : List (ℕ × ℕ) → ℕ → ℕ → Type 0
Meets set first last = (n : ℕ) × (first ≤ n) × (n ≤ last) × IsTrue (holds set n)
