use Rattle.nntp_verdict.proofs.VerdictLaws.{yes-if-explained}
use Rattle.nntp_verdict.proofs.laws.yes_where_a_spool_explains.Goals as goal

pub returns : goal.returns
returns c = yes-if-explained
