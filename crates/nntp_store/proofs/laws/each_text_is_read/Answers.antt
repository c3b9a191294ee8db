use Rattle.nntp_store.proofs.WholeSpools.{written_is_read}
use Rattle.nntp_store.proofs.laws.each_text_is_read.Goals as goal

pub returns : goal.returns
returns c = written_is_read
