use Rattle.std.proofs.Common.{rules}
use Rattle.nntp_article.proofs.ArticleLemmas.LineLemmas.{skip_last-blank, skip_last-plain}
use Rattle.nntp_article.proofs.article.head_line.skip_last_blanks.Goals as goal

pub returns-then-not-is_blank : goal.returns-then-not-is_blank
returns-then-not-is_blank c = search (rules, skip_last-plain)

pub loop-last-preserved : goal.loop-last-preserved
loop-last-preserved c = search (rules, skip_last-blank)
