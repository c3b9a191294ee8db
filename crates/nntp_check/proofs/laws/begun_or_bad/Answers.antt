use Rattle.nntp_check.proofs.BegunLaws.{begun-or-bad}
use Rattle.nntp_check.proofs.laws.begun_or_bad.Goals as goal

pub returns : goal.returns
returns c = begun-or-bad
