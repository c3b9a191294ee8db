use Rattle.std.proofs.Common.{◌≡◌, length}
use Rattle.nntp_said.specs.Inner.Asks.{state_at}
use Rattle.nntp_spool.{specs.Inner.AskedCounts.{AreCounted}, proofs.VerifiedPairs.{Permitted}}
use Rattle.nntp_wire.specs.Session.{taken}
use Rattle.nntp_spool.proofs.verification.judge.Given as goal

abbrev pub invariant-loop-exchange : goal.invariant-loop-exchange
invariant-loop-exchange g l = Permitted l.profile l.content (taken l.fn.overviews l.client) l.server l.pairs (state_at l.content l.visible l.position) l.answers × AreCounted l.content l.counts ×
    (l.group ≡ l.content)

abbrev pub decreases-loop-exchange : goal.decreases-loop-exchange
decreases-loop-exchange g l = length l.pairs.server
