use Rattle.nntp_kept.proofs.{Base.{arith, true≢false, overview_value, next_left, none_left, told}, Keeping.OverviewsJoin.{gives_joins}}
use Rattle.nntp_kept.proofs.kept.Kept.may_give_all.Goals as goal

pub returns-then-not-may_give : goal.returns-then-not-may_give
returns-then-not-may_give g c facts kept =
    let joins = gives_joins facts c.args.name.now c.args.self.now (overview_value c.overview-item.result) kept in
    let steps = next_left overview_value c.args.overviews.now c.loop-overview.overview-index c.overview-item.result c.loop-overview-test.true c.overview-item.is in
    grind (arith, true≢false, joins, steps, c.may_give.ensures (told facts) kept.groups, c.if-not-may_give.true, c.loop-overview.invariant facts kept)

pub loop-overview-preserved : goal.loop-overview-preserved
loop-overview-preserved g c facts kept =
    let joins = gives_joins facts c.args.name.now c.args.self.now (overview_value c.overview-item.result) kept in
    let steps = next_left overview_value c.args.overviews.now c.loop-overview.overview-index c.overview-item.result c.loop-overview-test.true c.overview-item.is in
    grind (arith, joins, steps, c.may_give.ensures (told facts) kept.groups, c.if-not-may_give.false, c.loop-overview.invariant facts kept)

pub returns : goal.returns
returns g c facts kept = grind (arith, none_left, c.loop-overview.invariant facts kept)
