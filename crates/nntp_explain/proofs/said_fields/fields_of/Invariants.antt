use Rattle.std.proofs.Common.{◌≡◌}
use Rattle.nntp_wire.specs.Listing.{overviews_of}
use Rattle.nntp_theory.specs.Given.{first_given, fields_of_overview}
use Rattle.nntp_explain.proofs.said_fields.fields_of.Given as goal

-- the first of those that are left with the id is the first of all
abbrev pub invariant-loop-overview : goal.invariant-loop-overview
invariant-loop-overview l =
    goal.iterator-loop-overview.can_next l.overview-iterator × goal.iterator-loop-overview.is_finite l.overview-iterator
    × (first_given (fields_of_overview l.id) l.overview-iterator ≡ first_given (fields_of_overview l.id) (overviews_of l.block))
