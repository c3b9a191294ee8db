use Rattle.std.proofs.Common.{◌≡◌, length}
use Rattle.nntp_article.specs.Article.Parts.{skip_last_blanks}
use Rattle.nntp_article.proofs.article.head_line.skip_last_blanks.Given as goal

-- what was passed over is blank
abbrev pub invariant-loop-last : goal.invariant-loop-last
invariant-loop-last l = skip_last_blanks l.rest ≡ skip_last_blanks l.octets

abbrev pub decreases-loop-last : goal.decreases-loop-last
decreases-loop-last l = length l.rest
