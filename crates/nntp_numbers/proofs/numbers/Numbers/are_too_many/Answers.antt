use Rattle.std.proofs.Common.{arith, ◌+◌, ◌∙◌, ap}
use Rattle.nntp_theory.specs.Inner.Estimates.{is_within}
use Rattle.nntp_numbers.proofs.ConflictsOfNumbers.{too_many_if}
use Rattle.nntp_numbers.proofs.numbers.Numbers.are_too_many.Goals as goal

pub returns : goal.returns
returns g c = λ asks sum bounded apart.
    let tally = c.tally-tally.ensures.tally asks sum bounded apart in
    too_many_if asks _ tally.count c.has_one_more.result (c.has_one_more.ensures asks sum bounded tally.found) _ (grind (arith, c.if-has_one_more.branch)) c.is_within.result
    (c.is_within.ensures ∙ ap (λ s. is_within s.estimate (c.tally-tally.result.count + c.if-has_one_more.more)) c.self.view_is ∙ sum.estimate _)
