use Rattle.std.proofs.Common.{◌∙◌, ap, refl, sym, subst}
use Rattle.nntp_verdict.specs.{Inner.{Checking.{StandsForAll, IsFinishedOfAll, has_failed}, CheckerView.{going_on, of_state}}, Verdict.{sessions_verdict_shown}}
use Rattle.nntp_verdict.proofs.CheckerLemmas.{decided-verdict}
use Rattle.nntp_verdict.proofs.checker.Checker.finish_sessions.Goals as goal

pub returns-in-Decided : goal.returns-in-Decided
returns-in-Decided g c =
    let j = sessions_verdict_shown c.in-Decided.verdict in
    subst (λ v. IsFinishedOfAll c.args.self (sessions_verdict_shown v)) (sym c.in-Decided.verdict-is)
    (subst (λ held. IsFinishedOfAll held j) (sym (ap of_state c.in-Decided.is) ∙ c.self.view_is)
    (record { worked = refl; verdict = λ limit marks before session stands. decided-verdict limit marks j c.in-Decided.counts before session stands }))

pub returns-in_ok-finish-in-Judging : goal.returns-in_ok-finish-in-Judging
returns-in_ok-finish-in-Judging g c =
    let is = sym c.self.view_is ∙ ap of_state c.in-Judging.is in
    record {
      worked = ap has_failed is;
      verdict = λ limit marks before session stands.
          c.in_ok-finish-in-Judging.ensures limit marks before session
          (subst (λ o. StandsForAll limit marks (going_on o) before session) (sym c.in-Judging.ongoing-is) (subst (λ held. StandsForAll limit marks held before session) is stands)).0;
    }
