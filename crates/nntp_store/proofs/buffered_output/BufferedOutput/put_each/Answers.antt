use Rattle.std.proofs.Common.{of_calls, refl, Ok, Err}
use Rattle.nntp_store.proofs.Written.{Puts-on, Puts-until, Puts-end}
use Rattle.nntp_store.proofs.buffered_output.BufferedOutput.put_each.Goals as goal

pub loop-item-init : goal.loop-item-init
loop-item-init g c = (c.requires.callable, λ left text each. (refl, λ result new p. rw c.into_iter-item-iterator.ensures.into_iter_gives at p))

pub loop-item-preserved : goal.loop-item-preserved
loop-item-preserved g c = (
  search of_calls,
  λ left text each.
      let before = c.loop-item.invariant.1 left text each in
      let put = each.puts _ _ _ (Ok c.in_ok-put.field-0) _ (rw before.0 at c.in_ok-put.ensures) in
      (put.0, λ result new p. before.1 result new (Puts-on _ _ _ _ _ _ (each.some _ _ _ c.in-Some.ensures.steps) _ put.1 _ _ p)),
)

pub returns-in_err-put : goal.returns-in_err-put
returns-in_err-put g c left text each =
    let before = c.loop-item.invariant.1 left text each in
    let put = each.puts _ _ _ (Err c.in_err-put.field-0.0) _ (rw before.0 at c.in_err-put.ensures) in
    before.1 _ _ (Puts-until _ _ _ _ _ _ (each.some _ _ _ c.in-Some.ensures.steps) _ put.1 _ c.from_residual.ensures.0)

pub returns : goal.returns
returns g c left text each = (c.loop-item.invariant.1 left text each).1 _ _ (Puts-end _ _ _ (each.none _ _ c.in-None.ensures.steps))
