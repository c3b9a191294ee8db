-- What an answer says at once of the numbers of one group (RFC 3977, section 6.1).
use Rattle.std.specs.Prelude.{◌≡◌, ℕ, ◌-◌, ◌^◌, ◌<◌, ◌≤◌, Bool, true, false, not, ◌&&◌, ◌||◌, ◌==◌, nat_lt, min, max, IsTrue, List, [], ◌∷◌, Option, None, Some}
use Rattle.std.specs.{Prelude.{unwrap_or}, List.{list_any, list_all}}
use Rattle.nntp_wire.specs.declared.{marks.Marks.TheVariants.{Strict}, range.Range.{Range}}
use Rattle.nntp_intervals.specs.Inner.Intervals.{is_between}
use Rattle.nntp_article.specs.Session.Machine.{is_in_range, is_ascending}
use Rattle.nntp_said.specs.Asks.{Ask, Estimates}
use Rattle.nntp_theory.specs.{Given.{is_shown, is_denied, demand}, Together.{is_possible}, declared.demand.Demand.{Demand, TheVariants.{NoDemand}}}
use Rattle.nntp_theory.specs.Inner.Estimates.{is_within, is_within_all}
use Rattle.nntp_numbers.specs.declared.ends.Ends.{Ends}

-- ---- strict marks

-- the lesser low mark and the greater high mark of both
abbrev pub join_ends : Option Ends → Option Ends → Option Ends
join_ends None e = e
join_ends (Some a) None = Some a
join_ends (Some a) (Some b) = Some (record { low = min a.low b.low; high = max a.high b.high })

-- the strict marks of an ask
abbrev pub ends_in : Ask → Option Ends
ends_in (Estimates Strict m) = Some (record { low = m.low; high = m.high })
ends_in ask = None

-- the least and the greatest of all strict marks
abbrev pub ends_of : List Ask → Option Ends
ends_of [] = None
ends_of (ask ∷ asks) = join_ends (ends_in ask) (ends_of asks)

-- n is one of the two strict marks
abbrev pub is_end_of : Option Ends → ℕ → Bool
is_end_of None n = false
is_end_of (Some e) n = e.low == n || e.high == n

-- ---- what is said at once

-- n is one of the numbers
abbrev pub is_one_of : List ℕ → ℕ → Bool
is_one_of ns n = list_any (λ m. n == m) ns

-- what some asks say: whether it can be; that no number is below the low one or above the high one, and that from the
-- first to the last these are the numbers; the least estimate, the strict marks, and the demand
pub record Said : Type 0 where
  pub possible : Bool
  pub low : ℕ
  pub high : ℕ
  pub first : ℕ
  pub last : ℕ
  pub numbers : List ℕ
  pub estimate : Option ℕ
  pub ends : Option Ends
  pub demand : Demand

-- what is said denies that n is there
abbrev pub part_denies : Said → ℕ → Bool
part_denies p n = nat_lt n p.low || nat_lt p.high n || (is_between p.first p.last n && not (is_one_of p.numbers n))

-- what is said where n is there, and no more is said
abbrev pub only_has : ℕ → Said
only_has n = record { possible = true; low = 0; high = 2 ^ 64 - 1; first = n; last = n; numbers = n ∷ []; estimate = None; ends = None; demand = NoDemand }

-- its numbers ascend from 1 on, and are from the first to the last; and the high mark and the last number are below 2^64
pub record IsRegular (p : Said) : Type 0 where
  pub ascends : IsTrue (is_ascending p.numbers)
  pub within : (n : ℕ) → is_one_of p.numbers n ≡ true → (1 ≤ n) × (p.first ≤ n) × (n ≤ p.last)
  pub high : p.high < 2 ^ 64
  pub last : p.last < 2 ^ 64

-- p is what the asks say
pub record Says (p : Said) (asks : List Ask) : Type 0 where
  pub possibly : p.possible ≡ list_all is_possible asks
  pub showing : (n : ℕ) → is_one_of p.numbers n ≡ is_shown asks n
  pub denying : (n : ℕ) → n < 2 ^ 64 → part_denies p n ≡ is_denied asks n
  pub estimating : (n : ℕ) → is_within p.estimate n ≡ is_within_all asks n
  pub ending : p.ends ≡ ends_of asks
  pub demanding : p.demand ≡ demand asks
  pub regular : IsRegular p

-- ---- a list of numbers (RFC 3977, section 6.1.2)

-- the numbers ascend from 1 on, and are in the range
pub record AreListable (r : Range) (ns : List ℕ) : Type 0 where
  pub ascends : IsTrue (is_ascending ns)
  pub within : (n : ℕ) → is_one_of ns n ≡ true → (1 ≤ n) × IsTrue (is_in_range r n)

-- the last number of the range, of those below 2^64
abbrev pub last_in : Range → ℕ
last_in r = unwrap_or r.last (2 ^ 64 - 1)
