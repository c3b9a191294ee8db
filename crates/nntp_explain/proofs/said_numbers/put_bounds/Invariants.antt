use Rattle.std.proofs.Common.{◌≡◌, ◌++◌, None}
use Rattle.nntp_wire.specs.Listing.{active_groups}
use Rattle.nntp_said.specs.Facts.{GroupsAre}
use Rattle.nntp_explain.specs.Says.{numbers_said}
use Rattle.nntp_explain.proofs.said_numbers.put_bounds.Given as goal

-- with what the lines say that are left, the text is that of all of them
abbrev pub invariant-loop-line : goal.invariant-loop-line
invariant-loop-line g l =
    (goal.iterator-loop-line g).can_next l.line-iterator × (goal.iterator-loop-line g).is_finite l.line-iterator
    × (l.text.items ++ numbers_said l.group l.about (GroupsAre None l.line-iterator) ≡ l.fn.text.items ++ numbers_said l.group l.about (GroupsAre None (active_groups l.block)))
