use Rattle.nntp_check.proofs.FirstPiece.{one-piece}
use Rattle.nntp_check.proofs.laws.one_first_piece.Goals as goal

pub returns : goal.returns
returns c = one-piece
