use Rattle.nntp_store.proofs.text.write.put_limit.Goals as goal

pub returns-in-Wide : goal.returns-in-Wide
returns-in-Wide g c = rw c.in-Wide.is c.put-in-Wide.ensures
