use Rattle.nntp_check.proofs.CaptureLaws.{capture-or-bad}
use Rattle.nntp_check.proofs.laws.capture_or_bad_piece.Goals as goal

pub returns : goal.returns
returns c = capture-or-bad
