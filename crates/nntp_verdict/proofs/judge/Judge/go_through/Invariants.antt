use Rattle.std.proofs.Common.{List, length}
use Rattle.nntp_wire.specs.declared.{limit.Limit.{Limit}, marks.Marks.{Marks}}
use Rattle.nntp_article.specs.Session.Limit.{profile_of}
use Rattle.nntp_several.specs.Sessions.{Recorded}
use Rattle.nntp_verdict.specs.Inner.Judging.{HaveEnded, Passed}
use Rattle.nntp_verdict.proofs.judge.Judge.go_through.Given as goal

abbrev pub invariant-loop-exchange : goal.invariant-loop-exchange
invariant-loop-exchange g l = (limit : Limit) (marks : Marks) (before : List Recorded) → HaveEnded (profile_of limit marks) before l.fn.self.facts l.fn.self.answers.items
    → Passed (profile_of limit marks) before l.session l.self.facts l.self.answers.items l.pairs

abbrev pub decreases-loop-exchange : goal.decreases-loop-exchange
decreases-loop-exchange g l = length l.pairs.server
