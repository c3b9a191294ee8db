use Rattle.std.proofs.Common.{length}
use Rattle.nntp_article.specs.Session.Limit.{profile_of}
use Rattle.nntp_suite.proofs.AcceptedAnswers.{AreAccepted}
use Rattle.nntp_wire.specs.{Session.{taken}, declared.overviews.Overviews.TheVariants.{Opaque}}
use Rattle.nntp_suite.proofs.example.conflict.first_contradiction.Given as goal

abbrev pub invariant-loop-exchange : goal.invariant-loop-exchange
invariant-loop-exchange l = AreAccepted (profile_of l.fn.limit l.fn.marks) (taken Opaque l.client) l.server l.facts l.answers.items l.standing l.pairs

abbrev pub decreases-loop-exchange : goal.decreases-loop-exchange
decreases-loop-exchange l = length l.pairs.server
