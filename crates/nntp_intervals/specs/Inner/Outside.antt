-- The numbers that aren't between two marks, as intervals.
use Rattle.std.specs.Prelude.{ℕ, ◌+◌, ◌-◌, ◌^◌, Bool, true, false, ◌&&◌, ◌||◌, List, [], ◌∷◌, ◌++◌, nat_lt}

-- the interval from first to last, where there is one
abbrev pub interval_if : Bool → ℕ → ℕ → List (ℕ × ℕ)
interval_if true first last = (first, last) ∷ []
interval_if false first last = []

-- the numbers below low, and those of 64 bits above high
abbrev pub outside : ℕ → ℕ → List (ℕ × ℕ)
outside low high = interval_if (nat_lt 0 low) 0 (low - 1) ++ interval_if (nat_lt high (2 ^ 64 - 1)) (high + 1) (2 ^ 64 - 1)

-- n is one of them
abbrev pub is_outside : ℕ → ℕ → ℕ → Bool
is_outside low high n = nat_lt n low || (nat_lt high n && nat_lt n (2 ^ 64))
