use Rattle.nntp_verdict.proofs.VerdictLaws.{one-verdict}
use Rattle.nntp_verdict.proofs.laws.one_verdict.Goals as goal

pub returns : goal.returns
returns c = one-verdict
