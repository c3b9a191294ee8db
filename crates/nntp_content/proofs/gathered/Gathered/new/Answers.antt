use Rattle.std.proofs.Common.{refl}
use Rattle.nntp_content.proofs.ShownMaps.{none_counted}
use Rattle.nntp_content.proofs.gathered.Gathered.new.Goals as goal

pub invariant_of-result : goal.invariant_of-result
invariant_of-result g c = rw (c.new.ensures.items, c.new-2.ensures) (record { names = refl; line_counts = none_counted })
