use Rattle.std.{proofs.Common.{◌≡◌, ◌↔◌, map, drop}, specs.List.{AllByRecursion}}
use Rattle.nntp_wire.specs.Inner.View.{overview_value}
use Rattle.nntp_spool.specs.Inner.ListedOverviews.{StandsIn}
use Rattle.nntp_spool.proofs.verification.listed_overviews.stand_in.Given as goal

-- all overviews stand there if those do that are left
abbrev pub invariant-loop-overview : goal.invariant-loop-overview
invariant-loop-overview g l =
    let Stands = StandsIn l.fn.group l.name in
    (AllByRecursion Stands (map overview_value (drop l.overview-index l.overviews)) ↔ AllByRecursion Stands (map overview_value l.overviews)) × (l.group ≡ l.fn.group)
