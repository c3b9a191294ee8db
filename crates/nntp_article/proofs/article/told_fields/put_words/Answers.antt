use Rattle.std.proofs.Common.{rules}
use Rattle.nntp_article.proofs.ArticleLemmas.MadeHeadLemmas.{word_written}
use Rattle.nntp_article.proofs.article.told_fields.put_words.Goals as goal

pub loop-word-preserved : goal.loop-word-preserved
loop-word-preserved g c = search (rules, word_written)
