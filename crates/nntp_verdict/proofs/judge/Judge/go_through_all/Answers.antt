use Rattle.std.proofs.Common.{take}
use Rattle.nntp_article.specs.Session.Limit.{profile_of}
use Rattle.nntp_verdict.{specs.Verdict.{sessions_verdict_shown}, proofs.JudgeLemmas.{passes, refuses, from-here, ended-next, ended-all}}
use Rattle.nntp_verdict.proofs.judge.Judge.go_through_all.Goals as goal

pub loop-session-init : goal.loop-session-init
loop-session-init g c = λ limit marks e. e

pub go_through-requires : goal.go_through-requires
go_through-requires g c =
    (c.requires.0, c.requires.1, take c.loop-session.session-index c.args.sessions.now, c.loop-session.invariant c.requires.0 c.requires.1 c.requires.2)

pub returns-in-Some : goal.returns-in-Some
returns-in-Some g c = λ limit marks e.
    let sessions = c.args.sessions.now in
    let i = c.loop-session.session-index in
    from-here limit marks sessions i c.session-item.result (sessions_verdict_shown c.in-Some.verdict) c.loop-session-test.true c.session-item.is
    (refuses _ c.in-Some.verdict _ _ c.in-Some.is (c.in_ok-verdict.ensures limit marks (take i sessions) (c.loop-session.invariant limit marks e)))

pub loop-session-preserved : goal.loop-session-preserved
loop-session-preserved g c = λ limit marks e.
    let sessions = c.args.sessions.now in
    let i = c.loop-session.session-index in
    ended-next (profile_of limit marks) sessions i c.session-item.result c.go_through.new.self.facts c.go_through.new.self.answers.items c.loop-session-test.true c.session-item.is
    (passes _ _ _ c.in_default.is (c.in_ok-verdict.ensures limit marks (take i sessions) (c.loop-session.invariant limit marks e)))

pub returns : goal.returns
returns g c = λ limit marks e.
    ended-all (profile_of limit marks) c.args.sessions.now c.loop-session.session-index c.loop-session.self.facts c.loop-session.self.answers.items c.loop-session-test.false
    (c.loop-session.invariant limit marks e)
