use Rattle.std.proofs.Common.{◌∙◌, ap, sym, subst}
use Rattle.nntp_article.specs.Session.Limit.{profile_of}
use Rattle.nntp_several.specs.Told.{IsToldBadOfAll}
use Rattle.nntp_verdict.{specs.{Inner.{Checking.{StandsForAll}, CheckerView.{of_state}}, Verdict.{sessions_verdict_shown}}, proofs.BadLemmas.{decided-told}}
use Rattle.nntp_verdict.proofs.checker.Checker.bad_of_sessions.Goals as goal

pub returns-in-Decided-clause-told : goal.returns-in-Decided-clause-told
returns-in-Decided-clause-told g c = λ limit marks before session stands.
    let here = subst (λ held. StandsForAll limit marks held before session) (sym c.self.view_is ∙ ap of_state c.in-Decided.is) stands in
    subst (IsToldBadOfAll (profile_of limit marks) before session) (sym c.bad_answer.ensures)
    (decided-told limit marks (sessions_verdict_shown c.in-Decided.verdict) c.in-Decided.counts before session here)
