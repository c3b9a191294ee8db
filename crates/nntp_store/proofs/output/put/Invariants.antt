use Rattle.std.proofs.Common.{◌≡◌, length}
use Rattle.nntp_store.specs.Writing.{Wrote}
use Rattle.nntp_store.proofs.output.put.Given as goal

abbrev pub invariant-loop-rest : goal.invariant-loop-rest
invariant-loop-rest g l = record {
  wrote : Wrote (g.W.Write.contents l.fn.w.inner) (g.W.Write.contents l.w.inner) l.octets l.rest;
  same : l.w.has_failed ≡ l.fn.w.has_failed;
}

abbrev pub decreases-loop-rest : goal.decreases-loop-rest
decreases-loop-rest g l = length l.rest
