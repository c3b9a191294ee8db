use Rattle.std.{proofs.Common.{map, drop}, specs.{Prelude.{◌↔◌}, List.{AllByRecursion}}}
use Rattle.nntp_wire.specs.Inner.View.{active_value}
use Rattle.nntp_spool.specs.Inner.ListedGroups.{LineAgrees}
use Rattle.nntp_spool.proofs.verification.listed_groups.agree_lines.Given as goal

-- all groups agree if those do that are left
abbrev pub invariant-loop-group : goal.invariant-loop-group
invariant-loop-group g l =
    AllByRecursion (LineAgrees l.spool l.wildmat) (map active_value (drop l.group-index l.groups)) ↔ AllByRecursion (LineAgrees l.spool l.wildmat) (map active_value l.groups)
