use Rattle.nntp_spool.proofs.PermittedPairs.{permitted-explained}
use Rattle.nntp_spool.proofs.laws.what_is_permitted_is_explained.Goals as goal

pub returns : goal.returns
returns c = λ profile S client server pairs left is. permitted-explained profile S is client server pairs left
