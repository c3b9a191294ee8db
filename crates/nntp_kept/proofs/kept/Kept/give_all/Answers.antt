use Rattle.nntp_kept.proofs.Base.{arith, [], ◌∷◌, ◌++◌, ◌+◌, map, take, drop, take_all, sym, subst, ◌∙◌, AllByRecursion, OverviewValue, overview_value}
use Rattle.nntp_kept.proofs.{Base.{TellsWords, next_left, one_more, MayGive, with_overviews, HaveOwn, between}, Keeping.OverviewsJoin.{so_far, AreGiven}}
use Rattle.nntp_kept.proofs.Keeping.OverviewsJoin.{said_so_far, said_next, may_give_next, one_more_given}
use Rattle.nntp_kept.proofs.kept.Kept.give_all.Goals as goal

pub give-requires : goal.give-requires
give-requires g c = grind (arith, next_left)

pub loop-overview-preserved : goal.loop-overview-preserved
loop-overview-preserved g c =
    let overviews = c.args.overviews.now in
    let i = c.loop-overview.overview-index in
    let line = c.overview-item.result in
    let o : OverviewValue = overview_value line in
    let front = map overview_value (take i overviews) in
    let rest = map overview_value (drop (i + 1) overviews) in
    let whole = between overview_value overviews i line c.loop-overview-test.true c.overview-item.is in (
      (subst (AllByRecursion TellsWords) (next_left overview_value overviews i line c.loop-overview-test.true c.overview-item.is) c.loop-overview.invariant.0).1,
      c.give.ensures.names ∙ c.loop-overview.invariant.1,
      λ facts tells kept articles shown own may.
          let name = c.args.name.now in
          let so = c.loop-overview.invariant.2 facts tells kept articles shown own may in
          let given = c.in_ok-give.ensures.kept (so_far facts tells name front o) (with_overviews tells name front) so.0 (λ id. said_so_far facts tells name front o id ∙ so.1 id)
          (may_give_next facts tells name front o rest (subst HaveOwn (sym whole) own) (subst (AllByRecursion (MayGive facts (tells name))) (sym whole) may)) in
          subst (λ os. AreGiven facts tells name os c.give.new.self) (sym (one_more overview_value overviews i line c.loop-overview-test.true c.overview-item.is))
          (given.0 (with_overviews tells name (front ++ o ∷ [])) (one_more_given facts tells name front o), λ id. said_next facts tells name front o id ∙ given.1 id),
    )

pub returns-clause-kept : goal.returns-clause-kept
returns-clause-kept g c facts tells kept articles shown own may =
    grind (arith, take_all c.loop-overview.overview-index c.args.overviews.now, c.loop-overview.invariant.2 facts tells kept articles shown own may)
