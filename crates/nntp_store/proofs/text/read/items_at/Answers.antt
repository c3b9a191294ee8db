use Rattle.std.proofs.{Common.{arith, Ok, ap, ◌∙◌}, lemmas.Result.{err_from_is_err_and}}
use Rattle.nntp_store.{specs.Inner.ReadingView.{turn_shown}, proofs.RepeatedSteps.{item_goes_on, item_ends, item_fails}}
use Rattle.nntp_store.proofs.text.read.items_at.Goals as goal

pub loop-preserved : goal.loop-preserved
loop-preserved g c = grind (arith, item_goes_on)

pub returns-in-Done : goal.returns-in-Done
returns-in-Done g c = item_ends c.args.limit c.args.most c.loop.counter c.loop.articles c.loop.gathered _ _ c.in-Done.content _ c.loop-test.true
    (c.in_ok-behind.ensures ∙ ap (λ t. Ok (turn_shown c.item_at.new.gathered t)) c.in-Done.is) c.loop.invariant

pub returns-in_err-behind : goal.returns-in_err-behind
returns-in_err-behind g c = grind (arith, err_from_is_err_and, item_fails)
