use Rattle.std.proofs.Common.{arith, subst}
use Rattle.nntp_wire.proofs.SubBlockLemmas.{passed-none, passed-more, passed-end, passed-all, IsBehind}
use Rattle.nntp_wire.proofs.sub_block.skip_lines.Goals as goal

pub loop-line-init : goal.loop-line-init
loop-line-init c = passed-none c.args.bytes.now c.requires

pub loop-line-preserved : goal.loop-line-preserved
loop-line-preserved c = grind (arith, passed-more)

pub returns-in_default-clause-front : goal.returns-in_default-clause-front
returns-in_default-clause-front c = (passed-end c.loop-line._line c.args.count c.args.bytes.now c.loop-line.rest.now c.loop-line.invariant (omega arith) c.in_default.ensures.parts).front

pub returns-in_default-clause-back : goal.returns-in_default-clause-back
returns-in_default-clause-back c = (passed-end c.loop-line._line c.args.count c.args.bytes.now c.loop-line.rest.now c.loop-line.invariant (omega arith) c.in_default.ensures.parts).back

pub returns-clause-front : goal.returns-clause-front
returns-clause-front c = (subst (λ k. IsBehind k c.args.bytes.now c.loop-line.rest.now) (omega arith) (passed-all c.loop-line._line c.args.bytes.now c.loop-line.rest.now c.loop-line.invariant)).front

pub returns-clause-back : goal.returns-clause-back
returns-clause-back c = (subst (λ k. IsBehind k c.args.bytes.now c.loop-line.rest.now) (omega arith) (passed-all c.loop-line._line c.args.bytes.now c.loop-line.rest.now c.loop-line.invariant)).back
