use Rattle.std.proofs.Common.{arith}
use Rattle.nntp_wire.proofs.ClosingLemmas.{spelled-closes}
use Rattle.nntp_wire.proofs.response.Frame.closes.Goals as goal

pub returns-in-Some : goal.returns-in-Some
returns-in-Some c = λ asked response same spells.
    let code = spelled-closes asked response c.args.self.now.initial c.args.self.now.block c.code.ensures.is_line spells in
    grind arith

pub returns-in-None : goal.returns-in-None
returns-in-None c = λ asked response same spells.
    let code = spelled-closes asked response c.args.self.now.initial c.args.self.now.block c.code.ensures.is_line spells in
    grind arith
