use Rattle.std.proofs.Common.{arith}
use Rattle.nntp_pair.proofs.feed.Feed.taking.Goals as goal

pub invariant_of-result : goal.invariant_of-result
invariant_of-result g c = rw (c.new.ensures, c.new-2.ensures) (record { counted = omega arith; small = omega arith; searched = c.new-3.ensures.searched; through = c.new-3.ensures.through })
