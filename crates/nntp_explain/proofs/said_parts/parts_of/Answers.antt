use Rattle.std.proofs.Common.{◌≡◌, ◌∙◌, true, false, arith}
use Rattle.nntp_explain.proofs.SaidLines.{no_parts}
use Rattle.nntp_explain.proofs.said_parts.parts_of.Goals as goal

pub returns-in-None-clause-head : goal.returns-in-None-clause-head
returns-in-None-clause-head c = grind (arith, no_parts)

pub returns-in-None-clause-body : goal.returns-in-None-clause-body
returns-in-None-clause-body c = c.split_at_line-nothing.ensures.front ∙ (no_parts c.args.article.now (λ any. let e : false ≡ true = c.in-None.ensures.some.1 any in cc)).1
