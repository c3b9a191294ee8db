use Rattle.std.proofs.Common.{arith}
use Rattle.nntp_store.proofs.LineFields.{value_more, value_past, digit_least}
use Rattle.nntp_store.proofs.text.fields.value.Goals as goal

pub returns-in_default : goal.returns-in_default
returns-in_default c =
    let p = value_past c.args.digits.now c.loop-digit.digit-index c.loop-digit.value c.requires c.loop-digit-test.true c.loop-digit.invariant in
    omega (arith, c.in_default.ensures)

pub overflow_sub-digit : goal.overflow_sub-digit
overflow_sub-digit c = digit_least c.args.digits.now c.loop-digit.digit-index c.requires c.loop-digit-test.true

pub returns-in_default-checked_add : goal.returns-in_default-checked_add
returns-in_default-checked_add c = grind (arith, value_past)

pub loop-digit-preserved : goal.loop-digit-preserved
loop-digit-preserved c = grind (arith, value_more)
