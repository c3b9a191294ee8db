use Rattle.std.proofs.Common.{◌≡◌, map, drop, []}
use Rattle.nntp_wire.specs.Inner.View.{overview_value}
use Rattle.nntp_article.specs.Session.{Machine.{overview_ids}, Misfit.{twice_misfit}}
use Rattle.nntp_article.proofs.session.visible.overviews.ids_misfit.Given as goal

-- what is wrong with the ids that are left, where these stand before them, is wrong with all
abbrev pub invariant-loop-overview : goal.invariant-loop-overview
invariant-loop-overview g l =
    twice_misfit (map (λ k. k.now) l.ids.keys) (overview_ids (map overview_value (drop l.overview-index l.overviews)))
    ≡ twice_misfit [] (overview_ids (map overview_value l.overviews))
