use Rattle.std.proofs.Common.{refl}
use Rattle.nntp_check.proofs.RunLemmas.{Wrote-kept}
use Rattle.nntp_check.proofs.run.print.Goals as goal

pub returns-clause-ok : goal.returns-clause-ok
returns-clause-ok g c = (refl, Wrote-kept _ _ _ c.args.text.now c.in_ok-put.ensures.text c.in_ok-flush.ensures.text)
