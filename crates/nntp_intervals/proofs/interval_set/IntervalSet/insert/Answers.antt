use Rattle.std.{proofs.Common.{ap, ◌∙◌}, specs.Prelude.{◌||◌}}
use Rattle.nntp_intervals.{specs.Inner.Intervals.{holds, is_between}, proofs.Outside.{marks_moved}}
use Rattle.nntp_intervals.proofs.interval_set.IntervalSet.insert.Goals as goal

pub returns-in-Some-clause-ok : goal.returns-in-Some-clause-ok
returns-in-Some-clause-ok g c n =
    marks_moved c.self.inside.others c.self.inside.low c.self.inside.high c.args.first c.args.last c.in-Some.low c.in-Some.high c.in-Some.ensures n
    ∙ ap (λ set. holds set n || is_between c.args.first c.args.last n) c.self.view_is
