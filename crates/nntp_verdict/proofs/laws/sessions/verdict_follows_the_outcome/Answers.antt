use Rattle.nntp_verdict.proofs.VerdictLaws.{verdict_at_ends, verdict_within}
use Rattle.nntp_verdict.proofs.laws.sessions.verdict_follows_the_outcome.Goals as goal

pub returns : goal.returns
returns c = record { yes = verdict_at_ends; no = verdict_within }
