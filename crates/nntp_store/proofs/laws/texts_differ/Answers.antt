use Rattle.nntp_store.proofs.WholeSpools.{same_text}
use Rattle.nntp_store.proofs.laws.texts_differ.Goals as goal

pub returns : goal.returns
returns c = same_text
