use Rattle.std.{proofs.Common.{◌≡◌, ◌==◌}, specs.List.{list_any}}
use Rattle.nntp_wire.specs.Listing.{listed_numbers}
use Rattle.nntp_explain.proofs.ask.has_number.Given as goal

-- the number is among those that are left, if it is listed at all
abbrev pub invariant-loop-listed : goal.invariant-loop-listed
invariant-loop-listed l =
    goal.iterator-loop-listed.can_next l.listed-iterator × goal.iterator-loop-listed.is_finite l.listed-iterator
    × (list_any (λ m. l.number == m) l.listed-iterator ≡ list_any (λ m. l.number == m) (listed_numbers l.block))
