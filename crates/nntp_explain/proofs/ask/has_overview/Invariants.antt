use Rattle.std.{proofs.Common.{◌≡◌, ◌==◌}, specs.List.{list_any}}
use Rattle.nntp_wire.specs.Listing.{overviews_of}
use Rattle.nntp_article.specs.Session.Machine.{overview_numbers}
use Rattle.nntp_explain.proofs.ask.has_overview.Given as goal

-- the number is that of one of the overviews that are left, if it is that of any
abbrev pub invariant-loop-overview : goal.invariant-loop-overview
invariant-loop-overview l =
    goal.iterator-loop-overview.can_next l.overview-iterator × goal.iterator-loop-overview.is_finite l.overview-iterator
    × (list_any (λ m. l.number == m) (overview_numbers l.overview-iterator) ≡ list_any (λ m. l.number == m) (overview_numbers (overviews_of l.block)))
