use Rattle.std.proofs.Common.{◌≡◌, ℕ, List}
use Rattle.nntp_store.specs.Inner.Buffering.{PutsEach, Puts}
use Rattle.nntp_store.proofs.buffered_output.BufferedOutput.put_each.Given as goal

abbrev pub invariant-loop-item : goal.invariant-loop-item
invariant-loop-item g l = goal.F-IsAlwaysCallable g l.put × ((left : _ → List ℕ) (text : _ → List ℕ)
    → PutsEach g.W.Write.contents g.I.Iterator.next_gives g.F.FnMut l.fn.put left text → (l.put ≡ l.fn.put) × ((result : _) (new : _)
    → Puts g.W.Write.contents result l.self new (left l.item-iterator) → Puts g.W.Write.contents result l.fn.self new (left l.fn.items)))
