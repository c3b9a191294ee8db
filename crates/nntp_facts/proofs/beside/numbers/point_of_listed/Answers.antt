use Rattle.std.proofs.Common.{arith}
use Rattle.nntp_facts.proofs.beside.numbers.point_of_listed.Goals as goal

pub returns-in-Some-2 : goal.returns-in-Some-2
returns-in-Some-2 g c facts all kept asked before = grind (arith, c.loop-line.invariant.2 facts all asked, c.in_ok-point.ensures facts all kept)

pub loop-line-preserved : goal.loop-line-preserved
loop-line-preserved g c = (
  tt,
  tt,
  λ facts all asked. grind (arith, c.loop-line.invariant.2 facts all asked),
  λ facts all kept asked before rest. grind (arith, c.loop-line.invariant.2 facts all asked, c.loop-line.invariant.3 facts all kept asked before, c.in_ok-point.ensures facts all kept),
)

pub returns : goal.returns
returns g c facts all kept asked before = c.loop-line.invariant.3 facts all kept asked before (grind arith)
