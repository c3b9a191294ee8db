use Rattle.nntp_store.proofs.BuiltContent.{nothing}
use Rattle.nntp_store.proofs.value.builder.SpoolBuilder.new.Goals as goal

pub invariant_of-result : goal.invariant_of-result
invariant_of-result g c = rw c.new.ensures (nothing _)
