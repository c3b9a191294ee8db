use Rattle.std.proofs.Common.{ap, arith, length, sym}
use Rattle.nntp_numbers.proofs.NumberSets.{listed_one}
use Rattle.nntp_numbers.proofs.number_set.NumberSet.len.Goals as goal

pub returns-in-Some-clause-len : goal.returns-in-Some-clause-len
returns-in-Some-clause-len g c = sym (ap length (listed_one _ _ _ c.in-Some.ends c.self.invariant c.self.view_is c.in-Some.is (omega arith)))
