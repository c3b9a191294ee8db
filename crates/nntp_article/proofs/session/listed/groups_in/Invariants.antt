use Rattle.std.proofs.Common.{◌≡◌, ◌++◌, map}
use Rattle.nntp_wire.specs.{Listing.{active_groups}, Inner.View.{active_value}}
use Rattle.nntp_article.proofs.session.listed.groups_in.Given as goal

abbrev pub invariant-loop-group : goal.invariant-loop-group
invariant-loop-group g l =
    (goal.iterator-loop-group g).can_next l.group-iterator × (goal.iterator-loop-group g).is_finite l.group-iterator
    × (map active_value l.groups.items ++ l.group-iterator ≡ active_groups l.block)
