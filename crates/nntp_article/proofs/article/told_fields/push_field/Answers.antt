use Rattle.std.proofs.Common.{rules}
use Rattle.nntp_article.proofs.ArticleLemmas.MadeHeadLemmas.{line_clean}
use Rattle.nntp_article.proofs.article.told_fields.push_field.Goals as goal

pub push-requires-2 : goal.push-requires-2
push-requires-2 g c = search (rules, line_clean c.args.field c.args.words)
