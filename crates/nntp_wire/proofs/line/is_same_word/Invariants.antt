use Rattle.std.proofs.Common.{◌≡◌, length}
use Rattle.nntp_wire.specs.Words.{is_same_word}
use Rattle.nntp_wire.proofs.line.is_same_word.Given as goal

-- what is left is the same exactly if all is
abbrev pub invariant-loop-octet : goal.invariant-loop-octet
invariant-loop-octet l = is_same_word l.left l.right ≡ is_same_word l.fn.word l.fn.other

abbrev pub decreases-loop-octet : goal.decreases-loop-octet
decreases-loop-octet l = length l.left
