use Rattle.std.proofs.Common.{arith}
use Rattle.nntp_facts.proofs.beside.ids.other_listed_id.Goals as goal

pub returns-then-is_some : goal.returns-then-is_some
returns-then-is_some g c tells kept = grind (arith, c.loop-overview.invariant.2 tells kept, c.other_id_at-point.ensures tells kept)

pub loop-overview-preserved : goal.loop-overview-preserved
loop-overview-preserved g c = (tt, tt, λ tells kept. grind (arith, c.loop-overview.invariant.2 tells kept, c.other_id_at-point.ensures tells kept))

pub returns : goal.returns
returns g c tells kept = grind (arith, c.loop-overview.invariant.2 tells kept)
