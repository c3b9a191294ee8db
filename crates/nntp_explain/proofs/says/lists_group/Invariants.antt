use Rattle.std.{proofs.Common.{◌≡◌}, specs.List.{list_any}}
use Rattle.nntp_wire.specs.Listing.{active_groups}
use Rattle.nntp_article.specs.Session.Machine.{is_same}
use Rattle.nntp_explain.proofs.says.lists_group.Given as goal

-- the group is among those that are left, if it is listed at all
abbrev pub invariant-loop-line : goal.invariant-loop-line
invariant-loop-line l =
    goal.iterator-loop-line.can_next l.line-iterator × goal.iterator-loop-line.is_finite l.line-iterator
    × (list_any (λ line. is_same line.name l.name) l.line-iterator ≡ list_any (λ line. is_same line.name l.name) (active_groups l.block))
