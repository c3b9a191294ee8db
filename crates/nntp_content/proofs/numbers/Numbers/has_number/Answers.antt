use Rattle.std.{proofs.Common.{not, is_some, ap, sym, ◌∙◌}, specs.Cmp.{nat_cmp_total}}
use Rattle.nntp_content.proofs.MapEntries.{absent_above}
use Rattle.nntp_content.proofs.numbers.Numbers.has_number.Goals as goal

pub returns-else-not-is_after : goal.returns-else-not-is_after
returns-else-not-is_after g c =
    ap not c.if-not-is_after.false
    ∙ sym (ap is_some (absent_above nat_cmp_total c.args.self.now c.args.number (sym c.is_after.ensures ∙ c.if-not-is_after.false)))
