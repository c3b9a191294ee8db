-- Octets begin a capture, or a piece of theirs is bad whatever follows.
use Rattle.std.proofs.Common.{◌≢◌, ◌⊎◌, ℕ, ◌+◌, List, [], length, inl, inr, append_assoc, arith}
use Rattle.nntp_check.{specs.Capture.{Part, Begins, BeginsCapture, IsBadPieceForGood}, proofs.{BegunLemmas.{completed}, CaptureLaws.{HasEnd, has-end}}}
use Rattle.nntp_check.proofs.{FirstPiece.{NeverBegins}, ReadingLemmas.{front-nil}}

-- pieces, and then octets that never begin one
never-bad : (octets : List ℕ) (parts : List Part) (rest : List ℕ) → Begins octets parts rest → rest ≢ [] → NeverBegins rest → IsBadPieceForGood octets (length parts + 1)
never-bad octets parts rest pieces some never more = grind (arith, append_assoc, front-nil)

-- a capture is begun, or a piece is bad for good
pub begun-or-bad : (octets : List ℕ) → BeginsCapture octets ⊎ ((number : ℕ) × IsBadPieceForGood octets number)
begun-or-bad octets = by (has-end (length octets) octets (omega arith))
  where
    by : HasEnd octets → BeginsCapture octets ⊎ ((number : ℕ) × IsBadPieceForGood octets number)
    by (parts, rest, pieces, inl end) = inl (completed octets parts rest pieces.whole pieces.each (inl end))
    by (parts, rest, pieces, inr (some, (none, inl more))) = inl (completed octets parts rest pieces.whole pieces.each (inr more))
    by (parts, rest, pieces, inr (some, (none, inr never))) = inr (length parts + 1, never-bad octets parts rest pieces some never)
