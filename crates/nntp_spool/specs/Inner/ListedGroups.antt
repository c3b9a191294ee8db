-- The groups that LIST ACTIVE lists, against a spool (RFC 3977, section 7.6.3).
use Rattle.std.specs.Prelude.{ℕ, ◌≤◌, List, Option, IfSome}
use Rattle.nntp_wire.specs.{Wildmat.{MatchesName}, Listing.{ActiveValue}}
use Rattle.nntp_article.specs.Session.Spool.{Spool, IsGroup, IsNumber, numbers}

-- the listed group is one that matches, and the marks bound its numbers
abbrev pub LineAgrees : Spool → Option (List ℕ) → ActiveValue → Type 0
LineAgrees S p line = IsGroup S line.name × IfSome p (λ w. MatchesName w line.name) × ((n : ℕ) → IsNumber (numbers S line.name) n → (line.low ≤ n) × (n ≤ line.high))
