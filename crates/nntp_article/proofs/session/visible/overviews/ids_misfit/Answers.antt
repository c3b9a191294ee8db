use Rattle.std.proofs.{Common.{◌+◌, map, drop, sym, ap, ◌∙◌, arith}, lemmas.Grind.{common_steps}}
use Rattle.nntp_wire.specs.{Inner.View.{overview_value}, Listing.{OverviewValue}}
use Rattle.nntp_article.{specs.Session.{Machine.{overview_ids}, Misfit.{twice_misfit}}, proofs.SessionLemmas.{LinesLeft.{next_left}, NamesInASet.{names_in}}}
use Rattle.nntp_article.proofs.SessionLemmas.NamesInASet.{taken, free, twice_here, twice_later}
use Rattle.nntp_article.proofs.session.visible.overviews.ids_misfit.Goals as goal

pub returns-then-not-branch : goal.returns-then-not-branch
returns-then-not-branch g c =
    let overviews = c.args.overviews.now in
    let i = c.loop-overview.overview-index in
    let one : OverviewValue = overview_value c.overview-item.result in
    let rest = map overview_value (drop (i + 1) overviews) in
    let old = c.loop-overview.ids.keys in
    sym (twice_here one.id (overview_ids rest) old c.as_slice-id.result c.as_slice-id.ensures.value (taken _ _ c.in_ok-insert.ensures.added c.if-not-branch.true))
    ∙ ap (λ left. twice_misfit (names_in old) (overview_ids left)) (sym (next_left overview_value overviews i c.overview-item.result c.loop-overview-test.true c.overview-item.is))
    ∙ c.loop-overview.invariant

pub loop-overview-preserved : goal.loop-overview-preserved
loop-overview-preserved g c =
    let overviews = c.args.overviews.now in
    let i = c.loop-overview.overview-index in
    let one : OverviewValue = overview_value c.overview-item.result in
    let rest = map overview_value (drop (i + 1) overviews) in
    let old = c.loop-overview.ids.keys in
    twice_later one.id (overview_ids rest) old c.as_slice-id.result c.as_slice-id.ensures.value c.insert.new.self.keys
    (free _ _ c.in_ok-insert.ensures.added c.if-not-branch.false) c.in_ok-insert.ensures.keys
    ∙ ap (λ left. twice_misfit (names_in old) (overview_ids left)) (sym (next_left overview_value overviews i c.overview-item.result c.loop-overview-test.true c.overview-item.is))
    ∙ c.loop-overview.invariant

pub returns : goal.returns
returns g c = grind (arith, common_steps)
