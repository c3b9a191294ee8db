use Rattle.std.proofs.Common.{Some, ap, sym, ◌∙◌}
use Rattle.nntp_content.proofs.ShownNumbers.{next_below_is, none_below}
use Rattle.nntp_content.proofs.numbers.Numbers.next_below.Goals as goal

pub returns-in-Some : goal.returns-in-Some
returns-in-Some g c =
    let is = next_below_is _ _ _ c.self.invariant.0 c.self.view_is c.deref.ensures.value _ _ _ c.split_before.ensures c.in-Some.numbered.now c.in-Some.ensures.value in
    (is.0, is.1 ∙ ap Some (sym c.as_str.ensures.value))

pub returns-in-None : goal.returns-in-None
returns-in-None g c = none_below _ _ _ c.self.invariant.0 c.self.view_is c.deref.ensures.value _ _ _ c.split_before.ensures c.in-None.ensures.value
