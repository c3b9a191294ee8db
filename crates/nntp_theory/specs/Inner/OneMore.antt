-- How the one more number of a group is looked for (RFC 3977, section 6.1).
use Rattle.std.specs.Prelude.{ℕ, ◌-◌, ◌^◌, Bool, true, false, Option, None, Some, ◌+◌, zero, suc, if◌then◌else◌}
use Rattle.nntp_theory.specs.{Given.{wants}, declared.demand.Demand.{Demand, TheVariants.{NoDemand}}}

-- the demand wants a number
abbrev pub is_demanding : Demand → Bool
is_demanding NoDemand = false
is_demanding d = true

-- the first of k numbers from n on that isn't taken
unfoldable pub free : (ℕ → Bool) → ℕ → ℕ → Option ℕ
free taken zero n = None
free taken (suc k) n = if taken n then free taken k (n + 1) else Some n

-- the number, where the demand wants it
abbrev pub if_wanted : Demand → Option ℕ → Option ℕ
if_wanted d None = None
if_wanted d (Some n) = if wants d n then Some n else None

-- how many numbers of 64 bits there are from 1 on
unfoldable pub all_numbers : ℕ
all_numbers = 2 ^ 64 - 1
