use Rattle.std.specs.Cmp.{nat_cmp_total}
use Rattle.nntp_content.proofs.MapEntries.{absent_above}
use Rattle.nntp_content.proofs.numbers.Numbers.insert.Goals as goal

pub put-requires : goal.put-requires
put-requires g c = absent_above nat_cmp_total c.args.self.now c.args.number c.requires
