use Rattle.nntp_check.proofs.CaptureLaws.{not-both}
use Rattle.nntp_check.proofs.laws.never_both.Goals as goal

pub returns : goal.returns
returns c = not-both
