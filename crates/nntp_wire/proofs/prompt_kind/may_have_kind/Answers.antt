use Rattle.std.proofs.Common.{rules, arith}
use Rattle.nntp_wire.proofs.KindLemmas.{begins_kind, line_other}
use Rattle.nntp_wire.proofs.prompt_kind.may_have_kind.Goals as goal

pub returns-in_default : goal.returns-in_default
returns-in_default c = grind (arith, rules, begins_kind, line_other)

pub returns-in_default-2 : goal.returns-in_default-2
returns-in_default-2 c = grind (arith, rules, begins_kind, line_other)
