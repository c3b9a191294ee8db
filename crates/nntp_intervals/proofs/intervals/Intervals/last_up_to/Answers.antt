use Rattle.std.proofs.Common.{subst}
use Rattle.nntp_intervals.{specs.Inner.Neighbours.{IsLastUpTo, IsFreeUpTo}, proofs.LastUpTo.{last_up_to, none_up_to}}
use Rattle.nntp_intervals.proofs.intervals.Intervals.last_up_to.Goals as goal

pub returns-in-Some : goal.returns-in-Some
returns-in-Some g c =
    subst (λ set. IsLastUpTo set c.args.n c.in-Some.first.now c.in-Some.last.now) c.self.view_is
    (last_up_to c.self.inside.lasts c.args.n _ (c.range.ensures.in_range tt) c.range.ensures.ordered _ _ _ c.self.invariant c.in-Some.ensures.steps)

pub returns-in-None : goal.returns-in-None
returns-in-None g c =
    subst (λ set. IsFreeUpTo set c.args.n) c.self.view_is
    (none_up_to c.self.inside.lasts c.args.n _ (c.range.ensures.in_range tt) c.range.ensures.ordered c.in-None.ensures.steps.0)
