use Rattle.nntp_check.proofs.CaptureLaws.{stays-bad, begins-none}
use Rattle.nntp_check.proofs.laws.bad_piece_for_good.Goals as goal

pub returns : goal.returns
returns c octets number b = (stays-bad octets number b, begins-none octets number b)
