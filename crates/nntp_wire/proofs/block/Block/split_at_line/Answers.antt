use Rattle.std.proofs.Common.{take, drop, ◌∙◌, sym, ap, subst}
use Rattle.nntp_wire.{specs.Inner.Block.{Sends}, proofs.SubBlockLemmas.{front_sends, back_sends, received-of}}
use Rattle.nntp_wire.proofs.block.Block.split_at_line.Goals as goal

pub invariant_of-result : goal.invariant_of-result
invariant_of-result c =
    let s = front_sends c.args.count c.self.inside.sent.now c.skip_lines-rest.result.now c.split_at.result.0.now c.self.invariant.clean c.skip_lines-rest.ensures.front c.split_at.ensures.front in
    subst (Sends c.split_at.result.0.now) (sym (received-of _ _ s)) s

pub invariant_of-result-2 : goal.invariant_of-result-2
invariant_of-result-2 c =
    let s = back_sends c.args.count c.self.inside.sent.now c.skip_lines-rest.result.now c.split_at.result.1.now
    c.skip_lines-rest.ensures.front c.skip_lines-rest.ensures.back c.split_at.ensures.back in
    subst (Sends c.split_at.result.1.now) (sym (received-of _ _ s)) s

pub returns-clause-front : goal.returns-clause-front
returns-clause-front c =
    let s = front_sends c.args.count c.self.inside.sent.now c.skip_lines-rest.result.now c.split_at.result.0.now c.self.invariant.clean c.skip_lines-rest.ensures.front c.split_at.ensures.front in
    received-of _ _ s ∙ ap (take c.args.count) c.self.view_is

pub returns-clause-back : goal.returns-clause-back
returns-clause-back c =
    let s = back_sends c.args.count c.self.inside.sent.now c.skip_lines-rest.result.now c.split_at.result.1.now
    c.skip_lines-rest.ensures.front c.skip_lines-rest.ensures.back c.split_at.ensures.back in
    received-of _ _ s ∙ ap (drop c.args.count) c.self.view_is
