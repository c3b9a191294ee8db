use Rattle.std.{proofs.Common.{◌≡◌}, specs.Prelude.{◌&&◌}}
use Rattle.nntp_wire.specs.Inner.Block.{are_fit}
use Rattle.nntp_wire.proofs.block.all_fit.Given as goal

-- all fit exactly if the windows so far did and those that are left do
abbrev pub invariant-loop-window : goal.invariant-loop-window
invariant-loop-window l = (l.window-iterator.size ≡ 3) × (are_fit l.octets ≡ (l.fit && are_fit l.window-iterator.rest.now))
