use Rattle.nntp_content.proofs.ShownMaps.{none_counted}
use Rattle.nntp_content.proofs.content.Content.new.Goals as goal

pub invariant_of-result : goal.invariant_of-result
invariant_of-result g c = (rw c.new-2.ensures none_counted, c.new-3.ensures)
