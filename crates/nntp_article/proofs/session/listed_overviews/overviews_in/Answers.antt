use Rattle.std.{proofs.{Common.{◌≡◌, ◌++◌, map, append-nil, sym, ap, subst, ◌∙◌, arith}, lemmas.Grind.{common_steps}}, specs.List.{AllByRecursion}}
use Rattle.nntp_wire.specs.{Listing.{overviews_of}, Inner.View.{overview_value}}
use Rattle.nntp_article.{specs.Inner.Fields.{TellsWords}, proofs.ArticleLemmas.WordsOfLines.{overviews_words}}
use Rattle.nntp_article.proofs.session.listed_overviews.overviews_in.Goals as goal

pub returns-clause-words : goal.returns-clause-words
returns-clause-words g c =
    let front = map overview_value c.loop-overview.overviews.items in
    let whole : front ≡ overviews_of c.args.block.now =
    sym (append-nil front) ∙ ap (λ left. front ++ left) (sym c.in-None.ensures.steps.0) ∙ c.loop-overview.invariant.2 in
    subst (AllByRecursion TellsWords) (sym whole) (overviews_words c.args.block.now c.overviews-overview-items.ensures.clean c.overviews-overview-items.ensures.octets)

pub loop-overview-preserved : goal.loop-overview-preserved
loop-overview-preserved g c = grind (arith, common_steps)
