use Rattle.std.proofs.Common.{arith}
use Rattle.nntp_numbers.proofs.NumberSets.{opened, several_below, one_below, second_is}
use Rattle.nntp_numbers.proofs.number_set.NumberSet.how_many_below.Goals as goal

pub returns-then-second-k : goal.returns-then-second-k
returns-then-second-k g c =
    let is = opened _ _ _ c.in-Some.ends c.self.invariant c.self.view_is c.in-Some.is in
    let first = c.first.ensures in
    let second = second_is _ _ _ is _ _ _ c.unwrap_or-second.ensures c.copied.ensures first.variant.1 first.member first.least in
    several_below _ _ _ is _ second c.args.k c.if-k-ends.false c.if-ends-second.true c.if-second-k.true

pub returns-else-ends-second : goal.returns-else-ends-second
returns-else-ends-second g c =
    let is = opened _ _ _ c.in-Some.ends c.self.invariant c.self.view_is c.in-Some.is in
    let first = c.first.ensures in
    let second = second_is _ _ _ is _ _ _ c.unwrap_or-second.ensures c.copied.ensures first.variant.1 first.member first.least in
    one_below _ _ _ is _ second c.args.k c.if-k-ends.false (grind (arith, c.else-ends-second.either))
