use Rattle.std.{proofs.Common.{ap, subst, sym, ◌∙◌}, specs.List.{each_same}}
use Rattle.nntp_numbers.specs.Inner.NumberSets.{numbers_in, AreBetween}
use Rattle.nntp_numbers.proofs.number_set.NumberSet.copy.Goals as goal

pub invariant_of-result : goal.invariant_of-result
invariant_of-result g c = subst (AreBetween c.self.inside.ends) (sym (each_same _ _ c.in_ok-clone.ensures.cases)) c.self.invariant

pub returns : goal.returns
returns g c = ap (numbers_in c.self.inside.ends) (each_same _ _ c.in_ok-clone.ensures.cases) ∙ c.self.view_is
