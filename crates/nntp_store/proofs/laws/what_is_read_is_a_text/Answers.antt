use Rattle.nntp_store.proofs.WholeSpools.{read_is_text}
use Rattle.nntp_store.proofs.laws.what_is_read_is_a_text.Goals as goal

pub returns : goal.returns
returns c = read_is_text
