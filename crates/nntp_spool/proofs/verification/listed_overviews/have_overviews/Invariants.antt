use Rattle.std.{proofs.Common.{◌↔◌}, specs.List.{AllByRecursion}}
use Rattle.nntp_wire.specs.Listing.{overviews_of}
use Rattle.nntp_article.specs.Session.Machine.{HasOverview}
use Rattle.nntp_spool.proofs.verification.listed_overviews.have_overviews.Given as goal

-- all overviews agree if those do that are left
abbrev pub invariant-loop-overview : goal.invariant-loop-overview
invariant-loop-overview g l =
    (goal.iterator-loop-overview g).can_next l.overview-iterator × (goal.iterator-loop-overview g).is_finite l.overview-iterator
    × (AllByRecursion (HasOverview l.spool) l.overview-iterator ↔ AllByRecursion (HasOverview l.spool) (overviews_of l.block))
