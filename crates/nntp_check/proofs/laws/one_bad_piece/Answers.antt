use Rattle.nntp_check.proofs.CaptureLaws.{one-bad-piece}
use Rattle.nntp_check.proofs.laws.one_bad_piece.Goals as goal

pub returns : goal.returns
returns c = one-bad-piece
