use Rattle.std.proofs.Common.{arith, append-nil}
use Rattle.nntp_content.proofs.GatheredEntries.{one_down}
use Rattle.nntp_content.proofs.ascending.map_of.Goals as goal

pub loop-key-preserved-in_ok-insert : goal.loop-key-preserved-in_ok-insert
loop-key-preserved-in_ok-insert g c = grind (arith, one_down)

pub loop-key-preserved : goal.loop-key-preserved
loop-key-preserved g c = one_down g.K.Ord.cmp c.args.entries.items _ _ _ _ (c.in-Some.key, c.in-Some.value) c.requires c.loop-key.invariant c.in-Some.ensures.items c.in_ok-insert.ensures.entries

pub loop-key-init : goal.loop-key-init
loop-key-init g c = rw c.new-map.ensures.empty (append-nil _)
