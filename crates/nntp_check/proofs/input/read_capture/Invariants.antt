use Rattle.std.{proofs.Common.{◌≡◌, ◌≤◌, ◌-◌, ℕ, List, length}, specs.Io.KnownBytes.{Consumes}}
use Rattle.nntp_check.specs.{Capture.{nothing}, Inner.Sinks.{BothStand}}
use Rattle.nntp_check.proofs.input.read_capture.Given as goal

abbrev pub invariant-loop-count : goal.invariant-loop-count
invariant-loop-count g l = ((octets : List ℕ) × record {
  read : Consumes (g.R.Read.remaining l.fn.input.inner) (g.R.Read.remaining l.input.inner) octets;
  many : l.came ≡ length octets;
  few : length octets ≤ l.most;
  stands : (by : g.S.Sink.By) → g.S.Sink.stands by l.fn.sink nothing → BothStand l.reader (g.S.Sink.stands by l.sink) octets;
  same : l.input.has_failed ≡ l.fn.input.has_failed;
})

abbrev pub decreases-loop-count : goal.decreases-loop-count
decreases-loop-count g l = l.most - l.came
