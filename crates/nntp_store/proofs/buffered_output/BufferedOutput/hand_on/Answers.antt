use Rattle.nntp_store.proofs.buffered_output.BufferedOutput.hand_on.Goals as goal

pub returns-clause-text : goal.returns-clause-text
returns-clause-text g c = rw c.as_slice.ensures.value at c.in_ok-put.ensures.text
