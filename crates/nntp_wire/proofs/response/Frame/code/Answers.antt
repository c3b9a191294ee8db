use Rattle.std.proofs.Common.{subst, ap}
use Rattle.nntp_wire.specs.Lines.{HasNoCrlf}
use Rattle.nntp_wire.proofs.response.Frame.code.Goals as goal

pub returns-clause-is_line : goal.returns-clause-is_line
returns-clause-is_line c = subst HasNoCrlf (ap (λ f. f.initial) c.self.view_is) c.self.invariant.0.is_line
