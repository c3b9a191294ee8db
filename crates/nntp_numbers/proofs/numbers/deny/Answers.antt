use Rattle.std.{proofs.Common.{◌||◌, ap, ◌∙◌}, specs.Prelude.{nat_lt}}
use Rattle.nntp_intervals.specs.Inner.Intervals.{holds}
use Rattle.nntp_numbers.{proofs.{GapsOfAPart.{denies_by_gaps}, Tallies.{or_assoc}}, specs.Inner.PartView.{said}}
use Rattle.nntp_theory.proofs.OkResults.{on_ok}
use Rattle.nntp_numbers.proofs.numbers.deny.Goals as goal

pub returns : goal.returns
returns g c =
    let p = said c.args.part.now in
    on_ok c.deny_gaps.result (λ new regular n small. new n
    ∙ (λ i. c.in_ok-deny_outside.ensures n small i || holds (c.gaps.ensures i) n)
    ∙ or_assoc (holds c.args.denied.now n) (nat_lt n p.low || nat_lt p.high n) _
    ∙ ap (λ b. holds c.args.denied.now n || b) (denies_by_gaps p regular n small)) c.deny_gaps.ensures
