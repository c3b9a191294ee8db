-- The overviews that OVER or XOVER lists of a range, against the group and the articles of a spool (RFC 3977, section 8.3).
use Rattle.std.specs.{Prelude.{◌≡◌, Some}, FinMap.{get}}
use Rattle.nntp_wire.specs.Listing.{OverviewValue}
use Rattle.nntp_article.specs.Session.{Spool.{Spool, Name, numbers}, Machine.{HasOverview}}

-- the overview has the id at its number in the group, and the article of the id tells the same
abbrev pub StandsIn : Spool → Name → OverviewValue → Type 0
StandsIn S name overview = (get (numbers S name) overview.number ≡ Some overview.id) × HasOverview S overview
