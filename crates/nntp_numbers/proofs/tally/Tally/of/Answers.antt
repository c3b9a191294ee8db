use Rattle.std.proofs.{Common.{arith, ◌||◌, ◌==◌}, lemmas.Bool.Decides.{nat_tests}}
use Rattle.nntp_numbers.{proofs.Tallies.{tally_no_ends, tally_ends}, specs.Inner.Summary.{shown_after}}
use Rattle.nntp_numbers.proofs.tally.Tally.of.Goals as goal

pub returns-in_default-clause-tally : goal.returns-in_default-clause-tally
returns-in_default-clause-tally g c = λ up. tally_no_ends _ _ c.in_default.is _ _ _ (c.tally_shown-tally.ensures.tally up)

pub returns-clause-tally : goal.returns-clause-tally
returns-clause-tally g c = λ up.
    let p = shown_after c.args.shown.now c.args.numbers.now in
    let e = c.in-Some.ends in
    tally_ends p _ e c.in-Some.is _ _ _
    (c.with-2.ensures.tally (λ n. p n || e.low == n) (grind (arith, nat_tests, c.if-ends.branch)) (c.with.ensures.tally p c.is_shown_after-low.ensures (c.tally_shown-tally.ensures.tally up)))
