-- What is estimated of the numbers of one group (RFC 3977, section 6.1.1.2).
use Rattle.std.specs.{Prelude.{ℕ, Bool, true, nat_le, List, Option, None, Some}, List.{list_all}}
use Rattle.nntp_said.specs.Asks.{Ask, Estimates}

-- the estimate of the ask
abbrev pub estimate_in : Ask → Option ℕ
estimate_in (Estimates how m) = Some m.estimate
estimate_in ask = None

-- so many are no more than is estimated
abbrev pub is_within : Option ℕ → ℕ → Bool
is_within None n = true
is_within (Some e) n = nat_le n e

-- so many are no more than any of the asks estimates
abbrev pub is_within_all : List Ask → ℕ → Bool
is_within_all asks n = list_all (λ ask. is_within (estimate_in ask) n) asks
