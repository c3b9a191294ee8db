-- A spool with the limit that its article numbers are within.
use Rattle.nntp_wire.specs.{Limit.{greatest}, declared.limit.Limit.{Limit}}
use Rattle.nntp_article.specs.Session.Spool.{Spool, IsSpool}

-- a spool, and the limit of its article numbers
pub record LimitedSpool : Type 0 where
  pub limit : Limit
  pub spool : Spool

-- the numbers of the spool are within its limit
abbrev pub IsWithinLimit : LimitedSpool → Type 0
IsWithinLimit L = IsSpool (greatest L.limit) L.spool
