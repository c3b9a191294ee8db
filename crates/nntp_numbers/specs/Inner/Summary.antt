-- What is kept of all that is asked of the numbers of one group, and what it says.
use Rattle.std.specs.Prelude.{not, ◌-◌, nat_lt, nat_le, ◌≡◌, ◌≢◌, ℕ, ◌+◌, ◌^◌, ◌<◌, ◌≤◌, ◌↔◌, Bool, true, false, ◌&&◌, ◌||◌, IsTrue, if◌then◌else◌, List, []}
use Rattle.std.specs.{Prelude.{◌∷◌, Option, None, Some, MatchOption, length, ◌==◌}, List.{list_any, Sorted.{IsStrictlySortedBy}}, Ordering.{nat_cmp}}
use Rattle.std.specs.{BTreeMap.{is_at}, FinMap.{len}}
use Rattle.nntp_intervals.specs.Inner.Intervals.{holds}
use Rattle.nntp_article.specs.Session.Spool.{Numbers, IsNumber}
use Rattle.nntp_said.specs.Asks.{Ask}
use Rattle.nntp_theory.specs.{Given.{is_shown, is_denied, demand, join, wants, IsFirstFree, is_known}, Inner.Estimates.{is_within, is_within_all}}
use Rattle.nntp_theory.specs.{Inner.OneMore.{is_demanding}, declared.demand.Demand.{Demand, TheVariants.{NoDemand, NotEmpty, Impossible}}}
use Rattle.nntp_numbers.specs.{Inner.Part.{Said, part_denies, is_one_of, ends_of, join_ends, is_end_of}, declared.{ends.Ends.{Ends}, shown.HowMany.{HowMany}}}
use Rattle.nntp_numbers.specs.declared.shown.HowMany.TheVariants.{Absent, Single, Several}

-- ---- the summary

-- what is kept: the numbers that are shown, ascending; those below 2^64 that are denied, as intervals; the least estimate; the strict marks; the demand
pub record Summary : Type 0 where
  pub shown : List ℕ
  pub denied : List (ℕ × ℕ)
  pub estimate : Option ℕ
  pub ends : Option Ends
  pub demand : Demand

-- n is one of the ascending numbers
abbrev pub has : List ℕ → ℕ → Bool
has ns n = list_any (is_at (nat_cmp n)) ns

-- s is kept of the asks
pub record IsSummary (s : Summary) (asks : List Ask) : Type 0 where
  pub ascends : IsStrictlySortedBy nat_cmp s.shown
  pub shown : (n : ℕ) → has s.shown n ≡ is_shown asks n
  pub denied : (n : ℕ) → n < 2 ^ 64 → holds s.denied n ≡ is_denied asks n
  pub estimate : (n : ℕ) → is_within s.estimate n ≡ is_within_all asks n
  pub ends : s.ends ≡ ends_of asks
  pub demand : s.demand ≡ demand asks

-- no number from 2^64 on is left open
abbrev pub AreBounded : List Ask → Type 0
AreBounded asks = (n : ℕ) → 2 ^ 64 ≤ n → is_denied asks n ≡ true

-- ---- more asks

-- n is shown once these numbers are shown too
abbrev pub shown_after : List ℕ → List ℕ → ℕ → Bool
shown_after shown numbers n = has shown n || is_one_of numbers n

-- it is said that there is a number once this is said too
abbrev pub says_some_after : Summary → Said → Bool
says_some_after s p = not (length s.shown == 0) || not (length p.numbers == 0) || is_demanding (join s.demand p.demand)

-- the strict marks once this is said too, which are numbers: where it is said that there is one
abbrev pub ends_after : Summary → Said → Option Ends
ends_after s p = if says_some_after s p then join_ends s.ends p.ends else None

-- n is known once this is said too
abbrev pub known_after : Summary → Said → ℕ → Bool
known_after s p n = shown_after s.shown p.numbers n || is_end_of (ends_after s p) n

-- n is denied once this is said too
abbrev pub denied_after : List (ℕ × ℕ) → Said → ℕ → Bool
denied_after denied p n = holds denied n || part_denies p n

-- ---- whether what is asked stands together, from little

-- how many pass the test
abbrev pub PassSoMany : (ℕ → Bool) → HowMany → Type 0
PassSoMany p Absent = (n : ℕ) → p n ≡ false
PassSoMany p Single = (n : ℕ) × (p n ≡ true) × ((m : ℕ) → p m ≡ true → m ≡ n)
PassSoMany p Several = (n : ℕ) × (m : ℕ) × (n ≢ m) × (p n ≡ true) × (p m ≡ true)

-- the count with one number more
abbrev pub and_one : HowMany → HowMany
and_one Absent = Single
and_one w = Several

-- the first number from 1 on that isn't denied, if there is one
abbrev pub FirstFree : (ℕ → Bool) → Option ℕ → Type 0
FirstFree denied free = MatchOption free ((n : ℕ) → 1 ≤ n → denied n ≡ true) (IsFirstFree denied 1)

-- the demand wants the free number, and there is room for it
abbrev pub has_room : Demand → Option ℕ → ℕ → Option ℕ → Bool
has_room d None count estimate = false
has_room d (Some f) count estimate = wants d f && is_within estimate (count + 1)

-- the demand is met by the numbers that are known, of which it wants so many, or by one more
abbrev pub is_settled : Demand → HowMany → Option ℕ → ℕ → Option ℕ → Bool
is_settled NoDemand found free count estimate = is_within estimate count
is_settled Impossible found free count estimate = false
is_settled d Absent free count estimate = has_room d free count estimate
is_settled NotEmpty found free count estimate = is_within estimate count
is_settled d Single free count estimate = is_within estimate count
is_settled d Several free count estimate = false

-- the demand is met by the numbers that are known, of which it wants so many
abbrev pub is_met : Demand → HowMany → Bool
is_met NoDemand found = true
is_met Impossible found = false
is_met d Absent = false
is_met NotEmpty found = true
is_met d Single = true
is_met d Several = false

-- there are so many numbers that pass the test
abbrev pub AreCounted : (ℕ → Bool) → ℕ → Type 0
AreCounted p c = (M : Numbers) × ((n : ℕ) → IsNumber M n ↔ IsTrue (p n)) × (len M ≡ c)

-- so many numbers pass the test, and so many of these are wanted
pub record IsTally (p : ℕ → Bool) (d : Demand) (w : HowMany) (c : ℕ) : Type 0 where
  pub found : PassSoMany (λ n. p n && wants d n) w
  pub count : AreCounted p c

-- what is_settled looks at is so of the asks
pub record Looks (asks : List Ask) (d : Demand) (w : HowMany) (f : Option ℕ) (c : ℕ) (e : Option ℕ) : Type 0 where
  pub demanded : d ≡ demand asks
  pub found : PassSoMany (λ n. is_known asks n && wants d n) w
  pub free : FirstFree (is_denied asks) f
  pub count : AreCounted (is_known asks) c
  pub estimate : (n : ℕ) → is_within e n ≡ is_within_all asks n

-- the first free number below 2^64, if there is one
abbrev pub FirstFreeBelow : (ℕ → Bool) → Option ℕ → Type 0
FirstFreeBelow denied free = MatchOption free ((n : ℕ) → 1 ≤ n → n < 2 ^ 64 → denied n ≡ true) (λ f. (f < 2 ^ 64) × IsFirstFree denied 1 f)

-- what is said can be, denies nothing that is shown, and shows nothing that is denied
pub record AgreesWith (shown : List ℕ) (denied : List (ℕ × ℕ)) (p : Said) : Type 0 where
  pub can_be : IsTrue p.possible
  pub before : (n : ℕ) → has shown n ≡ true → part_denies p n ≡ false
  pub after : (n : ℕ) → is_one_of p.numbers n ≡ true → denied_after denied p n ≡ false

-- neither of the two is denied after what is said
abbrev pub AreOpen : List (ℕ × ℕ) → Said → Option Ends → Type 0
AreOpen denied p ends = (n : ℕ) → is_end_of ends n ≡ true → denied_after denied p n ≡ false

-- what is said was said before: it can be, says nothing of the numbers between its marks, and denies, estimates and demands no more than what is kept
pub record AddsNothing (s : Summary) (p : Said) : Type 0 where
  pub can_be : IsTrue p.possible
  pub lists_none : p.numbers ≡ []
  pub no_interval : p.last < p.first
  pub estimate : (n : ℕ) → is_within s.estimate n ≡ true → is_within p.estimate n ≡ true
  pub ends : join_ends s.ends p.ends ≡ s.ends
  pub demand : join s.demand p.demand ≡ s.demand
  pub outside : (n : ℕ) → n < 2 ^ 64 → (nat_lt n p.low || nat_lt p.high n) ≡ true → holds s.denied n ≡ true

-- what is_settled looks at, after what is said
pub record LooksAfter (s : Summary) (p : Said) (d : Demand) (w : HowMany) (f : Option ℕ) (c : ℕ) (e : Option ℕ) : Type 0 where
  pub demanded : d ≡ join s.demand p.demand
  pub tally : IsTally (known_after s p) d w c
  pub free : FirstFreeBelow (denied_after s.denied p) f
  pub estimate : (n : ℕ) → is_within e n ≡ (is_within s.estimate n && is_within p.estimate n)

-- ---- the parts of it, each by itself

-- the number is one of those that pass the test, and is denied; or none of them is, all of which are below 2^64
abbrev pub DeniedAmong : (ℕ → Bool) → List (ℕ × ℕ) → Option ℕ → Type 0
DeniedAmong p denied found =
    MatchOption found ((n : ℕ) → p n ≡ true → (n < 2 ^ 64) × (holds denied n ≡ false)) (λ n. (p n ≡ true) × (holds denied n ≡ true))

-- ---- the intervals that numbers leave

-- the number is between the marks, and not denied
abbrev pub is_open : List (ℕ × ℕ) → Said → ℕ → Bool
is_open denied p n = nat_le p.low n && nat_le n p.high && not (holds denied n)

-- the number behind n, if it is below 2^64
abbrev pub number_behind : ℕ → Option ℕ
number_behind n = if nat_lt (n + 1) (2 ^ 64) then Some (n + 1) else None

-- the intervals that ascending numbers leave of the one from a start, if there is one, to last
abbrev pub gaps : Option ℕ → ℕ → List ℕ → List (ℕ × ℕ)
gaps None last ns = []
gaps (Some start) last [] = (start, last) ∷ []
gaps (Some start) last (n ∷ ns) = (start, n - 1) ∷ gaps (number_behind n) last ns
