use Rattle.std.specs.Cmp.{nat_cmp_total}
use Rattle.nntp_content.proofs.GatheredEntries.{last_number, none_last}
use Rattle.std.specs.FinMap as map
use Rattle.nntp_content.proofs.numbers.Numbers.is_after.Goals as goal

pub returns-in-Some : goal.returns-in-Some
returns-in-Some g c = last_number c.args.self.now c.in-Some.greatest c.args.number c.in-Some.ensures.0 c.in-Some.ensures.1

pub returns-in-None : goal.returns-in-None
returns-in-None g c = none_last nat_cmp_total map.nat_cmp-IsAntisymmetric c.args.self.now c.args.number c.in-None.ensures
