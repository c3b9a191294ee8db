use Rattle.std.proofs.Common.{◌∙◌, ap, sym, subst}
use Rattle.nntp_verdict.specs.{Inner.{Checking.{HasBegun, decided}, CheckerView.{of_state}}, Verdict.{sessions_verdict_shown}}
use Rattle.nntp_verdict.proofs.CheckerLemmas.{begun-decided}
use Rattle.nntp_verdict.proofs.checker.Checker.begin_session.Goals as goal

pub returns-in-Decided : goal.returns-in-Decided
returns-in-Decided g c =
    let j = sessions_verdict_shown c.in-Decided.verdict in
    subst (λ held. HasBegun held (decided j (record { client = 0; server = 0 }))) (sym (ap of_state c.in-Decided.is) ∙ c.self.view_is) (begun-decided j c.in-Decided.counts)
