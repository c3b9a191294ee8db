use Rattle.nntp_check.proofs.CaptureLaws.{one-capture}
use Rattle.nntp_check.proofs.laws.one_capture.Goals as goal

pub returns : goal.returns
returns c = one-capture
