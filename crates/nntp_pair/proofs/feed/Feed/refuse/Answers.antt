use Rattle.std.proofs.Common.{arith}
use Rattle.nntp_pair.proofs.feed.Feed.refuse.Goals as goal

pub invariant_of-self : goal.invariant_of-self
invariant_of-self g c =
    let counted = c.self.invariant.counted in
    rw (c.clear.ensures, c.clear-2.ensures)
    (grind arith)
