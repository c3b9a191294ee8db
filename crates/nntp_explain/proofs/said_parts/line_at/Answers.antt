use Rattle.std.proofs.lemmas.Iterator.Consumers.{nth_from_yields_List, YieldsList-from_first}
use Rattle.nntp_explain.proofs.said_parts.line_at.Goals as goal

pub returns : goal.returns
returns c = nth_from_yields_List c.nth.result _ c.args.place c.nth.ensures.ran (YieldsList-from_first (λ x. x.now) (λ w. w) c.args.lines.now c.lines.ensures.lines)
