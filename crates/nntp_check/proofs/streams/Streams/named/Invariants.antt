use Rattle.std.proofs.Common.{◌≡◌, ◌++◌, drop}
use Rattle.nntp_check.specs.Capture.{sessions_as}
use Rattle.nntp_check.proofs.streams.Streams.named.Given as goal

abbrev pub invariant-loop-session : goal.invariant-loop-session
invariant-loop-session g l = l.sessions.items ++ sessions_as l.overviews (drop l.session-index l.self.ended.items) ≡ sessions_as l.overviews l.self.ended.items
