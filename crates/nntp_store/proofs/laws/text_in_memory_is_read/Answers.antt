use Rattle.nntp_store.proofs.WholeSpools.{memory_is_read}
use Rattle.nntp_store.proofs.laws.text_in_memory_is_read.Goals as goal

pub returns : goal.returns
returns c = memory_is_read
