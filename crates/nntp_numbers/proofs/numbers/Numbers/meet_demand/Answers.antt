use Rattle.std.proofs.Common.{arith}
use Rattle.nntp_numbers.proofs.ConflictsOfNumbers.{known_met, more_met}
use Rattle.nntp_numbers.proofs.numbers.Numbers.meet_demand.Goals as goal

pub returns-then-is_met : goal.returns-then-is_met
returns-then-is_met g c = λ asks sum bounded apart.
    grind (arith, known_met asks _ (c.tally-found.ensures.tally asks sum bounded apart).found _ _ c.self.view_is sum.demand)

pub returns-else-is_met : goal.returns-else-is_met
returns-else-is_met g c = λ asks sum bounded apart.
    let tally = c.tally-found.ensures.tally asks sum bounded apart in
    more_met asks _ tally.found _ _ c.self.view_is sum.demand _ c.is_met.ensures c.if-is_met.false
    c.has_one_more.result (c.has_one_more.ensures asks sum bounded tally.found)
