use Rattle.std.proofs.Common.{arith}
use Rattle.nntp_article.specs.Session.Limit.{profile_of}
use Rattle.nntp_verdict.proofs.JudgeLemmas.{ends}
use Rattle.nntp_verdict.proofs.judge.Judge.ended.Goals as goal

pub returns : goal.returns
returns g c = λ limit marks before session left unanswered p at end.
    let counts = c.push.new.self in
    ends (profile_of limit marks) before session c.args.self.now.facts c.begin_session.new.self c.args.self.now.answers.items counts.items c.args.answers unanswered left p at end
    c.in_ok-push.ensures.items (omega (arith, counts.ok.0, counts.ok.1, counts.small)) c.begin_session.ensures
