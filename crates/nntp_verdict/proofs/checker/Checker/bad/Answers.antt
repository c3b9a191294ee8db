use Rattle.std.proofs.Common.{[], ◌∙◌, ap, sym, subst}
use Rattle.nntp_article.specs.Session.Limit.{profile_of}
use Rattle.nntp_verdict.{specs.{Checking.{IsToldBad}, Inner.Checking.{without_session}}, proofs.BadLemmas.{told-alone}}
use Rattle.nntp_verdict.proofs.checker.Checker.bad.Goals as goal

pub returns : goal.returns
returns g c =
    let bad = c.bad_of_sessions.result in
    record {
      told = λ limit marks client server stands.
          subst (IsToldBad (profile_of limit marks) client server) (sym c.without_session.ensures)
          (told-alone (profile_of limit marks) client server bad (c.bad_of_sessions.ensures.told limit marks [] (record { client = client; server = server }) stands));
      failed = λ has. c.without_session.ensures ∙ ap without_session (c.bad_of_sessions.ensures.failed has);
      sessions = λ limit marks before session stands. (bad, c.bad_of_sessions.ensures.told limit marks before session stands, c.without_session.ensures);
    }
