use Rattle.nntp_numbers.proofs.NumberSets.{opened, one_kept, several_kept}
use Rattle.nntp_numbers.proofs.number_set.NumberSet.how_many.Goals as goal

pub returns-in-Some : goal.returns-in-Some
returns-in-Some g c = one_kept _ _ _ (opened _ _ _ c.in-Some.ends c.self.invariant c.self.view_is c.in-Some.is) c.if-ends.true

pub returns-in-Some-2 : goal.returns-in-Some-2
returns-in-Some-2 g c = several_kept _ _ _ (opened _ _ _ c.in-Some.ends c.self.invariant c.self.view_is c.in-Some.is) c.if-ends.false
