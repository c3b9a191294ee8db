use Rattle.std.proofs.Common.{◌≡◌, ◌∙◌, ◌+◌, ◌^◌, ◌<◌, length, ap, sym, subst}
use Rattle.nntp_pair.specs.{Inner.Sides.{given, count_of, counted}, declared.side.Side.TheVariants.{Client, Server}}
use Rattle.nntp_verdict.specs.{Inner.{Checking.{IsTaken, decided, counts_of}, CheckerView.{of_state}}, Verdict.{sessions_verdict_shown}}
use Rattle.nntp_verdict.proofs.CheckerLemmas.{taken-decided}
use Rattle.nntp_verdict.proofs.checker.Checker.take.Goals as goal

pub returns-in-Decided : goal.returns-in-Decided
returns-in-Decided g c =
    let side = c.args.side in
    let octets = c.args.piece.now in
    let j = sessions_verdict_shown c.in-Decided.verdict in
    let more = c.in-Some-with.counts in
    let at = c.in-Some.ensures.1 ∙ ap (λ s. counts_of (of_state s)) c.in-Decided.is in
    subst (λ held. IsTaken side octets held (decided j more)) (sym (ap of_state c.in-Decided.is) ∙ c.self.view_is)
    (taken-decided side octets j c.in-Decided.held more (subst (λ n. count_of side n + length octets < 2 ^ 64) at c.in-Some-with.ensures.0)
    (subst (λ n. more ≡ counted (given Client side octets) (given Server side octets) n) at c.in-Some-with.ensures.1))
