use Rattle.std.{proofs.Common.{◌≡◌, ◌++◌}, specs.Vec.{vec_len}}
use Rattle.nntp_content.proofs.ascending.map_of.Given as goal

abbrev pub invariant-loop-key : goal.invariant-loop-key
invariant-loop-key g l = l.left.items ++ l.map.entries ≡ l.fn.entries.items

abbrev pub decreases-loop-key : goal.decreases-loop-key
decreases-loop-key g l = vec_len l.left
