-- The greatest article number (RFC 3977, section 6).
use Rattle.std.specs.Prelude.{ℕ}
use Rattle.nntp_wire.specs.declared.limit.Limit.{Limit, TheVariants.{Narrow, Wide}}

-- the greatest article number within the limit: of 31 bits (section 6), or of 16 digits (section 9.8)
abbrev pub greatest : Limit → ℕ
greatest Narrow = 2147483647
greatest Wide = 9999999999999999
