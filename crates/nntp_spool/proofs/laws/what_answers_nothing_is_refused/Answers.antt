use Rattle.nntp_spool.proofs.PermittedPairs.{bad-refused}
use Rattle.nntp_spool.proofs.laws.what_answers_nothing_is_refused.Goals as goal

pub returns : goal.returns
returns c = λ profile S client server pairs left class is. bad-refused profile S is client server pairs left class
