use Rattle.std.proofs.Common.{◌≡◌, true, drop}
use Rattle.nntp_wire.specs.Inner.Words.{are_joined}
use Rattle.nntp_wire.proofs.word.are_joined.Given as goal

-- the octets that are left, behind the last one
abbrev pub invariant-loop-octet : goal.invariant-loop-octet
invariant-loop-octet l = are_joined l.is_behind_blank (drop l.octet-index l.text) ≡ are_joined true l.fn.text
