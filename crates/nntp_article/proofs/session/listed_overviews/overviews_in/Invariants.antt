use Rattle.std.proofs.Common.{◌≡◌, ◌++◌, map}
use Rattle.nntp_wire.specs.{Listing.{overviews_of}, Inner.View.{overview_value}}
use Rattle.nntp_article.proofs.session.listed_overviews.overviews_in.Given as goal

abbrev pub invariant-loop-overview : goal.invariant-loop-overview
invariant-loop-overview g l =
    (goal.iterator-loop-overview g).can_next l.overview-iterator × (goal.iterator-loop-overview g).is_finite l.overview-iterator
    × (map overview_value l.overviews.items ++ l.overview-iterator ≡ overviews_of l.block)
