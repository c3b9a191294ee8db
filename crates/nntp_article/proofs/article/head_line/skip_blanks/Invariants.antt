use Rattle.std.proofs.Common.{◌≡◌, length}
use Rattle.nntp_article.specs.Article.Parts.{skip_blanks}
use Rattle.nntp_article.proofs.article.head_line.skip_blanks.Given as goal

-- what was passed over is blank
abbrev pub invariant-loop-first : goal.invariant-loop-first
invariant-loop-first l = skip_blanks l.rest ≡ skip_blanks l.octets

abbrev pub decreases-loop-first : goal.decreases-loop-first
decreases-loop-first l = length l.rest
