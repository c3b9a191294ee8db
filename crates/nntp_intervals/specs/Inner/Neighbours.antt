-- The intervals beside a number, by which numbers are in the set.
use Rattle.std.specs.Prelude.{◌≡◌, ℕ, ◌+◌, ◌^◌, ◌<◌, ◌≤◌, Bool, true, false, ◌&&◌, List, nat_lt, nat_le}
use Rattle.nntp_intervals.specs.Inner.Intervals.{holds}

-- no number up to n is in the set
abbrev pub IsFreeUpTo : List (ℕ × ℕ) → ℕ → Type 0
IsFreeUpTo set n = (m : ℕ) → m ≤ n → holds set m ≡ false

-- the number before first is not in the set
abbrev pub IsFreeBefore : List (ℕ × ℕ) → ℕ → Type 0
IsFreeBefore set first = (m : ℕ) → m + 1 ≡ first → holds set m ≡ false

-- the numbers from first to last are in the set, the ones beside them are not, nor is one behind last up to n
pub record IsLastUpTo (set : List (ℕ × ℕ)) (n first last : ℕ) : Type 0 where
  pub begins : first ≤ n
  pub ascends : first ≤ last
  pub held : (m : ℕ) → first ≤ m → m ≤ last → holds set m ≡ true
  pub free_before : IsFreeBefore set first
  pub free_behind : holds set (last + 1) ≡ false
  pub free_up_to : (m : ℕ) → last < m → m ≤ n → holds set m ≡ false

-- the numbers from start to first are in the set, but perhaps first, and the one before is not
pub record IsFirstJoined (set : List (ℕ × ℕ)) (first start : ℕ) : Type 0 where
  pub begins : start ≤ first
  pub held : (m : ℕ) → start ≤ m → m < first → holds set m ≡ true
  pub free_before : IsFreeBefore set start

-- the numbers from last to end are in the set, but perhaps last, and the one behind, if there is one, is not
pub record IsLastJoined (set : List (ℕ × ℕ)) (last end : ℕ) : Type 0 where
  pub ends : last ≤ end
  pub held : (m : ℕ) → last < m → m ≤ end → holds set m ≡ true
  pub free_behind : end + 1 < 2 ^ 64 → holds set (end + 1) ≡ false

-- n is behind start, and not behind end
abbrev pub is_within : ℕ → ℕ → ℕ → Bool
is_within start end n = nat_lt start n && nat_le n end
