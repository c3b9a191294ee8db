use Rattle.nntp_numbers.proofs.NumberSets.{opened, outside_none}
use Rattle.nntp_numbers.proofs.number_set.NumberSet.none_outside.Goals as goal

pub returns-then-low-ends : goal.returns-then-low-ends
returns-then-low-ends g c = outside_none _ _ _ (opened _ _ _ c.in-Some.ends c.self.invariant c.self.view_is c.in-Some.is) c.args.low c.args.high c.if-low-ends.true
