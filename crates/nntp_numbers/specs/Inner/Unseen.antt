-- The given numbers that no answer shows, as they are read off what is kept.
use Rattle.std.specs.{Prelude.{◌||◌, not, length, ℕ, ◌==◌, if◌then◌else◌, List, Option, None, Some}, List.{list_any}}
use Rattle.nntp_intervals.specs.Inner.Intervals.{holds}
use Rattle.nntp_theory.specs.{Given.{wants}, Inner.OneMore.{is_demanding, free, if_wanted, all_numbers}}
use Rattle.nntp_numbers.specs.{declared.ends.Ends.{Ends}, Inner.Summary.{Summary, has}}

-- the one more number: the first that isn't denied, where the demand wants it and none that is shown
abbrev pub one_more_in : Summary → Option ℕ
one_more_in s = if list_any (wants s.demand) s.shown then None else if_wanted s.demand (free (holds s.denied) all_numbers 1)

-- the strict marks, where it is said that there is a number
abbrev pub known_ends_in : Summary → Option Ends
known_ends_in s = if not (length s.shown == 0) || is_demanding s.demand then s.ends else None

-- the number, where it isn't shown
abbrev pub unless_shown : List ℕ → ℕ → Option ℕ
unless_shown shown n = if has shown n then None else Some n

-- the low strict mark, where there is one and it isn't shown; else the one more number
abbrev pub unseen_beside : Option Ends → Summary → Option ℕ
unseen_beside None s = one_more_in s
unseen_beside (Some e) s = unless_shown s.shown e.low

abbrev pub unseen_in : Summary → Option ℕ
unseen_in s = unseen_beside (known_ends_in s) s

-- the high strict mark, where there is one and it is neither shown nor the low one
abbrev pub unseen_high_beside : Option Ends → List ℕ → Option ℕ
unseen_high_beside None shown = None
unseen_high_beside (Some e) shown = if e.high == e.low then None else unless_shown shown e.high

abbrev pub unseen_high_in : Summary → Option ℕ
unseen_high_in s = unseen_high_beside (known_ends_in s) s.shown
