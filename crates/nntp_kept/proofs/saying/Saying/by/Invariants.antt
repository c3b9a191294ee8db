use Rattle.nntp_kept.proofs.Base.{◌≡◌, length, nothing, saying_by, saying_of}
use Rattle.nntp_kept.proofs.saying.Saying.by.Given as goal

-- with the facts that are left, this is what all of them say
abbrev pub invariant-loop-fact : goal.invariant-loop-fact
invariant-loop-fact l = saying_by l.shown (saying_of l.saying) l.facts ≡ saying_by l.shown nothing l.fn.facts

abbrev pub decreases-loop-fact : goal.decreases-loop-fact
decreases-loop-fact l = length l.facts
