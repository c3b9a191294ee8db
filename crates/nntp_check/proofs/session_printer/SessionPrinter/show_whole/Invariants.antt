use Rattle.std.proofs.Common.{length}
use Rattle.nntp_check.specs.{Capture.{Held}, Inner.Showing.{Shows}}
use Rattle.nntp_check.proofs.session_printer.SessionPrinter.show_whole.Given as goal

abbrev pub invariant-loop-exchange : goal.invariant-loop-exchange
invariant-loop-exchange g l = (held : Held) → Shows l.fn.self held → Shows l.self held

abbrev pub decreases-loop-exchange : goal.decreases-loop-exchange
decreases-loop-exchange g l = length l.self.feed.server
