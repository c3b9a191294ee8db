use Rattle.std.{proofs.Common.{◌≡◌, length}, specs.List.{list_all}}
use Rattle.nntp_wire.specs.{Octets.{is_clean}, Inner.Held.{held}}
use Rattle.nntp_article.proofs.article.said_id.are_clean.Given as goal

-- the lines that are left decide
abbrev pub invariant-loop-line : goal.invariant-loop-line
invariant-loop-line g l = list_all is_clean (held l.rest) ≡ list_all is_clean (held l.lines)

abbrev pub decreases-loop-line : goal.decreases-loop-line
decreases-loop-line g l = length l.rest
