use Rattle.std.proofs.Common.{[], take}
use Rattle.nntp_wire.specs.declared.{limit.Limit.{Limit}, marks.Marks.{Marks}}
use Rattle.nntp_article.specs.Session.Limit.{profile_of}
use Rattle.nntp_verdict.specs.Inner.Judging.{HaveEnded}
use Rattle.nntp_verdict.proofs.judge.Judge.go_through_all.Given as goal

-- the sessions so far have ended
abbrev pub invariant-loop-session : goal.invariant-loop-session
invariant-loop-session g l = (limit : Limit) (marks : Marks) → HaveEnded (profile_of limit marks) [] l.fn.self.facts l.fn.self.answers.items
    → HaveEnded (profile_of limit marks) (take l.session-index l.sessions) l.self.facts l.self.answers.items
