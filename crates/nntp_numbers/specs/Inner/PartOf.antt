-- What an ask adds to what is said at once of the numbers of one group (RFC 3977, section 6.1).
use Rattle.std.specs.Prelude.{ℕ, ◌+◌, ◌-◌, ◌^◌, ◌<◌, true, false, ◌==◌, nat_lt, if◌then◌else◌, List, [], None, Some}
use Rattle.nntp_said.specs.Asks.{Ask, Estimates, Bounds, ListsIn, Has, Lacks, StandsAt, StandsNowhere, StepsUp, StepsDown, IsTop, IsBottom}
use Rattle.nntp_said.specs.declared.position.Position.{Position, TheVariants.{Nowhere, First, Known}}
use Rattle.nntp_numbers.specs.Inner.Part.{Said, ends_in, last_in}
use Rattle.nntp_theory.specs.declared.demand.Demand.TheVariants.{NoDemand, NotEmpty, OnlyOne, SecondIs}

-- nothing is said
abbrev pub nothing_said : Said
nothing_said = record { possible = true; low = 0; high = 2 ^ 64 - 1; first = 1; last = 0; numbers = []; estimate = None; ends = None; demand = NoDemand }

-- it can't be
abbrev pub impossible : Said → Said
impossible p = record p { possible = false }

-- from the first to the last these are the numbers
abbrev pub listing : ℕ → ℕ → List ℕ → Said → Said
listing first last shown p = record p { first = first; last = last; numbers = shown }

-- the number at the position is this
abbrev pub standing_at : Position → ℕ → Said → Said
standing_at Nowhere n p = impossible p
standing_at First n p = record p { low = n }
standing_at (Known c) n p = record p { possible = c == n }

-- there is none at the position
abbrev pub standing_nowhere : Position → Said → Said
standing_nowhere Nowhere p = p
standing_nowhere First p = listing 0 (2 ^ 64 - 1) [] p
standing_nowhere (Known c) p = impossible p

-- the next one above the position is this
abbrev pub stepping_up : Position → ℕ → Said → Said
stepping_up Nowhere n p = impossible p
stepping_up First n p = record p { demand = SecondIs n }
stepping_up (Known c) n p = if nat_lt c n then record p { first = c + 1 } else impossible p

-- the next one below the position is this
abbrev pub stepping_down : Position → ℕ → Said → Said
stepping_down (Known c) n p = if nat_lt n c then record p { last = c - 1 } else impossible p
stepping_down at n p = impossible p

-- none is above the position
abbrev pub none_above : Position → Said → Said
none_above Nowhere p = impossible p
none_above First p = record p { demand = OnlyOne }
none_above (Known c) p = record p { high = c }

-- none is below the position
abbrev pub none_below : Position → Said → Said
none_below Nowhere p = impossible p
none_below First p = record p { demand = NotEmpty }
none_below (Known c) p = record p { low = c }

-- an ask is said too; the numbers that its answer shows are given
abbrev pub part_with : List ℕ → Ask → Said → Said
part_with shown (Estimates how m) p = record p { low = m.low; high = m.high; estimate = Some m.estimate; ends = ends_in (Estimates how m) }
part_with shown (Bounds low high) p = record p { low = low; high = high }
part_with shown (ListsIn r ns) p = listing r.first (last_in r) shown p
part_with shown (Has n) p = listing n n shown p
part_with shown (Lacks n) p = listing n n [] p
part_with shown (StandsAt at n) p = standing_at at n (listing n n shown p)
part_with shown (StandsNowhere at) p = standing_nowhere at p
part_with shown (StepsUp at n) p = stepping_up at n (listing n n shown p)
part_with shown (StepsDown at n) p = stepping_down at n (listing n n shown p)
part_with shown (IsTop at) p = none_above at p
part_with shown (IsBottom at) p = none_below at p

-- the high end and the last number are below 2^64
pub record IsSmall (p : Said) : Type 0 where
  pub high : p.high < 2 ^ 64
  pub last : p.last < 2 ^ 64
