use Rattle.nntp_intervals.proofs.Meets.{meets_last}
use Rattle.nntp_intervals.proofs.intervals.Intervals.meets.Goals as goal

pub returns-then-first-last : goal.returns-then-first-last
returns-then-first-last g c = meets_last c.args.self.now c.args.first c.args.last _ c.in-Some.end c.if-first-last.true c.in-Some.ensures
