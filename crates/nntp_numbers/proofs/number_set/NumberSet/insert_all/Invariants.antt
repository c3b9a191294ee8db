use Rattle.std.{proofs.Common.{◌≡◌, ℕ, ◌||◌, take}, specs.{List.Sorted.{IsStrictlySortedBy}, Ordering.{nat_cmp}}}
use Rattle.nntp_numbers.specs.Inner.{Part.{is_one_of}, Summary.{has}}
use Rattle.nntp_numbers.proofs.number_set.NumberSet.insert_all.Given as goal

abbrev pub invariant-loop-n : goal.invariant-loop-n
invariant-loop-n g l =
    ((n : ℕ) → has l.self n ≡ (has l.initial.self n || is_one_of (take l.n-index l.numbers) n))
    × (IsStrictlySortedBy nat_cmp l.initial.self → IsStrictlySortedBy nat_cmp l.self)
