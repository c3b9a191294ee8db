use Rattle.std.proofs.Common.{◌≡◌, length}
use Rattle.nntp_article.specs.{Article.Parts.{said_id}, Inner.SaidId.{id_by}}
use Rattle.nntp_wire.specs.Inner.Held.{held}
use Rattle.nntp_article.proofs.article.said_id.id_of.Given as goal

-- the lines that are left decide with what is known so far
abbrev pub invariant-loop-line : goal.invariant-loop-line
invariant-loop-line g l = id_by l.said (held l.rest) ≡ said_id (held l.lines)

abbrev pub decreases-loop-line : goal.decreases-loop-line
decreases-loop-line g l = length l.rest
