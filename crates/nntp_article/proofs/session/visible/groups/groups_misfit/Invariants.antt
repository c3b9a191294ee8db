use Rattle.std.{proofs.Common.{◌≡◌, map, drop, [], ◌∷◌}, specs.Option.{option_or}}
use Rattle.nntp_wire.specs.{Inner.View.{active_value}, Reason.{first}}
use Rattle.nntp_article.specs.{Session.{Machine.{group_names}, Misfit.{active_misfit, twice_misfit}}, Inner.MisfitView.{why_if}}
use Rattle.nntp_article.proofs.session.visible.groups.groups_misfit.Given as goal

-- what is wrong with the lines that are left, where the first group that is listed twice is kept, is wrong with all
abbrev pub invariant-loop-group : goal.invariant-loop-group
invariant-loop-group g l =
    first (first (map (active_misfit l.profile l.wildmat) (map active_value (drop l.group-index l.groups)))
    ∷ option_or (why_if l.twice) (twice_misfit (map (λ k. k.now) l.names.keys) (group_names (map active_value (drop l.group-index l.groups)))) ∷ [])
    ≡ first (first (map (active_misfit l.profile l.wildmat) (map active_value l.groups)) ∷ twice_misfit [] (group_names (map active_value l.groups)) ∷ [])
