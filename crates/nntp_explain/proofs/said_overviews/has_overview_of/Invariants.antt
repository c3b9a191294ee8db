use Rattle.std.proofs.Common.{◌≡◌}
use Rattle.nntp_wire.specs.Listing.{overviews_of}
use Rattle.nntp_theory.specs.Given.{has_overview_of}
use Rattle.nntp_explain.proofs.said_overviews.has_overview_of.Given as goal

-- one of those that are left has the id, if any has it
abbrev pub invariant-loop-overview : goal.invariant-loop-overview
invariant-loop-overview l =
    goal.iterator-loop-overview.can_next l.overview-iterator × goal.iterator-loop-overview.is_finite l.overview-iterator
    × (has_overview_of l.id l.overview-iterator ≡ has_overview_of l.id (overviews_of l.block))
