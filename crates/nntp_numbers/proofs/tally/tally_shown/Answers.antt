use Rattle.std.proofs.Common.{◌∙◌, arith}
use Rattle.nntp_numbers.{proofs.Tallies.{tally_start, tally_step, tally_end, there_if}, specs.Inner.Summary.{has}}
use Rattle.nntp_numbers.proofs.tally.tally_shown.Goals as goal

pub loop-n-init : goal.loop-n-init
loop-n-init g c = (
  λ up. rw c.len.ensures.len (tally_start _ _ _ c.len.ensures.ascends c.how_many_wanted.ensures),
  omega (arith, c.len.ensures.small),
)

pub loop-n-preserved : goal.loop-n-preserved
loop-n-preserved g c = (
  λ up. tally_step _ _ _ _ _ _ c.loop-n-test.true
      (c.with-tally.ensures.tally _ (c.contains.ensures ∙ there_if (has c.args.shown.now) _ _ up c.loop-n-test.true) (c.loop-n.invariant.0 up)),
  omega (arith, c.loop-n.invariant.1, c.with-tally.ensures.count),
)

pub returns-clause-tally : goal.returns-clause-tally
returns-clause-tally g c = λ up.
    tally_end _ _ _ c.loop-n.n-index _ _ (omega (arith, c.loop-n-test.false, c.loop-n.auto.n-index-end)) (c.loop-n.invariant.0 up)
