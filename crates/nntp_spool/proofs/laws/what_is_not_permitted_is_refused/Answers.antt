use Rattle.nntp_spool.proofs.PermittedPairs.{unpermitted-refused}
use Rattle.nntp_spool.proofs.laws.what_is_not_permitted_is_refused.Goals as goal

pub returns : goal.returns
returns c = λ profile S client server pairs left behind x is. unpermitted-refused profile S is client server pairs left behind x
