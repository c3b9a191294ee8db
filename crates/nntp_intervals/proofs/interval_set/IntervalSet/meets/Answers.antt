use Rattle.std.proofs.Common.{sym, subst, ◌∙◌}
use Rattle.nntp_intervals.{specs.Inner.Intervals.{Meets}, proofs.{Outside.{low_meets, high_meets}, interval_set.IntervalSet.meets.Goals.{then-first-self}}}
use Rattle.nntp_intervals.proofs.interval_set.IntervalSet.meets.Goals.{else-first-self}
use Rattle.nntp_intervals.proofs.interval_set.IntervalSet.meets.Goals as goal

pub returns-then-self-last : goal.returns-then-self-last
returns-then-self-last g c = (
  λ t. subst (λ set. Meets set c.args.first c.args.last) c.self.view_is (elim c.if-first-self.branch [
    | then-first-self w ↦ low_meets c.self.inside.others c.self.inside.low c.self.inside.high c.args.first c.args.last c.if-first-last.true w.if-first-self.true
    | else-first-self w ↦
        high_meets c.self.inside.others c.self.inside.low c.self.inside.high c.args.first c.args.last c.if-first-last.true c.ranges.last.fits
        (sym w.value-is ∙ c.if-self-last.true)
  ]),
  λ meets. c.if-self-last.true,
)
