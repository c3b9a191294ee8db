use Rattle.std.proofs.Common.{◌≡◌, length}
use Rattle.nntp_article.specs.Inner.Listed.{lists}
use Rattle.nntp_spool.{specs.Inner.AskedCounts.{AreCounted}, proofs.AnswersInFacts.{AreLeft}}
use Rattle.nntp_spool.proofs.verification.holding.hold.Given as goal

abbrev pub invariant-loop-fact : goal.invariant-loop-fact
invariant-loop-fact g l = AreLeft l.fn.group (lists l.listed) l.fn.facts l.facts × AreCounted l.fn.group l.counts × (l.group ≡ l.fn.group)

abbrev pub decreases-loop-fact : goal.decreases-loop-fact
decreases-loop-fact g l = length l.facts
