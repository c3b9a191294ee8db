use Rattle.std.proofs.Common.{[], length}
use Rattle.nntp_article.specs.Session.Limit.{profile_of}
use Rattle.nntp_verdict.specs.Inner.Judging.{Passed}
use Rattle.nntp_wire.specs.Session.{taken}
use Rattle.nntp_fixtures.proofs.notes.note_taking.Given as goal

abbrev pub invariant-loop-exchange : goal.invariant-loop-exchange
invariant-loop-exchange g l = Passed (profile_of l.fn.limit l.fn.marks) [] (record { client = taken l.fn.overviews l.client; server = l.server }) l.facts [] l.pairs

abbrev pub decreases-loop-exchange : goal.decreases-loop-exchange
decreases-loop-exchange g l = length l.pairs.server
