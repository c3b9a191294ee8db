-- How much a spool holds.
use Rattle.std.specs.{Prelude.{ℕ, sum, map}, FinMap.{entries, len}}
use Rattle.nntp_article.specs.Session.Spool.{Spool}

-- the numbers over all groups
abbrev pub numbers_in : Spool → ℕ
numbers_in S = sum (map (λ g. len g.1) (entries S.groups))
