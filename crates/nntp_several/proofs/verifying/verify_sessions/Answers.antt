use Rattle.std.proofs.Common.{[], sym, subst, ◌∙◌}
use Rattle.nntp_article.specs.Session.{Explains.{Explains}, Limit.{profile_of}}
use Rattle.nntp_spool.specs.{Sessions.{RefusesAt}, Verifying.{IsVerified}}
use Rattle.nntp_several.{specs.{Sessions.{Recorded}, Verifying.{PermitsAll, IsVerifiedOfAll}}, proofs.SessionsVerified.{permits_next, refuses_next}}
use Rattle.nntp_several.proofs.SessionsVerified.{permits_last}
use Rattle.nntp_wire.specs.Session.{taken}
use Rattle.nntp_several.proofs.verifying.verify_sessions.Goals as goal

pub loop-session-init : goal.loop-session-init
loop-session-init g c =
    let profile = profile_of c.args.spool.now.limit c.args.marks in
    subst (λ ns. IsVerifiedOfAll profile c.args.spool.now.spool [] (PermitsAll ns)) (sym c.new-answers.ensures.items) tt

pub loop-session-preserved : goal.loop-session-preserved
loop-session-preserved g c =
    let profile = profile_of c.args.spool.now.limit c.args.marks in
    let S = c.args.spool.now.spool in
    let n = c.in-Permits.count in
    let told = subst (IsVerified profile S (taken c.session.inside.overviews c.session.inside.client.now) c.session.inside.server.now) c.in-Permits.is c.in_ok-count.ensures in
    permits_next profile S c.args.sessions.now c.loop-session.session-index c.loop-session.answers.items c.loop-session.invariant
    c.session-item.result c.push.new.self.items n c.loop-session-test.true c.session-item.is (subst (λ (s : Recorded). Explains profile S s.client s.server n) c.session.view_is told)
    c.in_ok-push-in-Permits.ensures.items

pub returns-in-Refuses : goal.returns-in-Refuses
returns-in-Refuses g c =
    let profile = profile_of c.args.spool.now.limit c.args.marks in
    let S = c.args.spool.now.spool in
    let k = c.in-Refuses.index in
    let told = subst (IsVerified profile S (taken c.session.inside.overviews c.session.inside.client.now) c.session.inside.server.now) c.in-Refuses.is c.in_ok-count.ensures in
    refuses_next profile S c.args.sessions.now c.loop-session.session-index c.loop-session.answers.items c.loop-session.invariant
    c.session-item.result c.len.result k c.loop-session-test.true c.session-item.is (c.len.ensures ∙ c.loop-session.answers.ok.0)
    (subst (λ (s : Recorded). RefusesAt profile S s.client s.server k) c.session.view_is told)

pub returns : goal.returns
returns g c =
    let profile = profile_of c.args.spool.now.limit c.args.marks in
    permits_last profile c.args.spool.now.spool c.args.sessions.now c.loop-session.session-index c.loop-session.answers.items c.loop-session.invariant c.loop-session-test.false
