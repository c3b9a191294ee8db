use Rattle.std.proofs.Common.{arith}
use Rattle.nntp_store.proofs.BuiltContent.{group_added}
use Rattle.nntp_store.proofs.value.builder.SpoolBuilder.group.Goals as goal

pub invariant_of-self-in-Ok-put_group : goal.invariant_of-self-in-Ok-put_group
invariant_of-self-in-Ok-put_group g c = grind (arith, group_added)
