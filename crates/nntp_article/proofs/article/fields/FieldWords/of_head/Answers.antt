use Rattle.std.proofs.Common.{rules}
use Rattle.nntp_article.proofs.ArticleLemmas.FieldWordLemmas.{named_here, named_later}
use Rattle.nntp_article.proofs.article.fields.FieldWords.of_head.Goals as goal

pub returns-then-is_same_word : goal.returns-then-is_same_word
returns-then-is_same_word c = search (rules, named_here)

pub loop-line-preserved : goal.loop-line-preserved
loop-line-preserved c = search (rules, named_later)
