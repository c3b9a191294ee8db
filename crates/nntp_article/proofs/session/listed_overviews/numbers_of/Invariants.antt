use Rattle.std.proofs.Common.{◌≡◌, ◌++◌, map, drop}
use Rattle.nntp_wire.specs.Inner.View.{overview_value}
use Rattle.nntp_article.specs.Session.Machine.{overview_numbers}
use Rattle.nntp_article.proofs.session.listed_overviews.numbers_of.Given as goal

abbrev pub invariant-loop-overview : goal.invariant-loop-overview
invariant-loop-overview g l =
    l.numbers.items ++ overview_numbers (map overview_value (drop l.overview-index l.overviews)) ≡ overview_numbers (map overview_value l.overviews)
