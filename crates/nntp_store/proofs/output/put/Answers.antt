use Rattle.std.proofs.{Common.{subst, sym, arith}, lemmas.Grind.{common_steps}}
use Rattle.nntp_store.{specs.Writing.{Wrote}, proofs.Written.{Wrote-take}}
use Rattle.nntp_store.proofs.output.put.Goals as goal

pub loop-rest-preserved : goal.loop-rest-preserved
loop-rest-preserved g c =
    let before = g.W.Write.contents c.args.w.now.inner in
    let after = g.W.Write.contents c.write.new.self.inner in
    record {
      wrote = subst (Wrote before after c.args.octets.now) (sym c.split_at.ensures.back)
          (Wrote-take before _ after c.args.octets.now c.loop-rest.rest.now c.in-Ok.count c.loop-rest.invariant.wrote
          c.in-Ok.ensures.bytes);
      same = grind (arith, common_steps, c.in-Ok.ensures.failed);
    }
