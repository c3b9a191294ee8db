use Rattle.std.proofs.Common.{◌≡◌, ◌++◌}
use Rattle.nntp_wire.specs.Listing.{listed_numbers}
use Rattle.nntp_article.proofs.session.listed.numbers_in.Given as goal

abbrev pub invariant-loop-number : goal.invariant-loop-number
invariant-loop-number g l =
    (goal.iterator-loop-number g).can_next l.number-iterator × (goal.iterator-loop-number g).is_finite l.number-iterator
    × (l.numbers.items ++ l.number-iterator ≡ listed_numbers l.block)
