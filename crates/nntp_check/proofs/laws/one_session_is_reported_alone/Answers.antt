use Rattle.nntp_check.proofs.{AloneLaws.{one-report}, HoldingLemmas.{capture-alone}}
use Rattle.nntp_check.proofs.laws.one_session_is_reported_alone.Goals as goal

pub returns : goal.returns
returns c = record { alone = capture-alone; report = one-report }
