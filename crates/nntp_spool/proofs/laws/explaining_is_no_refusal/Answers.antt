use Rattle.nntp_spool.proofs.PermittedPairs.{explained-unrefused}
use Rattle.nntp_spool.proofs.laws.explaining_is_no_refusal.Goals as goal

pub returns : goal.returns
returns c = λ profile S client server n k e. explained-unrefused profile S e.is_spool client server n k e
