use Rattle.std.proofs.Common.{sym, subst, ◌∙◌, ap}
use Rattle.nntp_article.{specs.{Article.Fields.{fields_of_head}, Inner.Fields.{AreWords}}, proofs.ArticleLemmas.WordsOfLines.{head_words}}
use Rattle.nntp_article.proofs.article.told_fields.ToldFields.fields.Goals as goal

pub returns-clause-words : goal.returns-clause-words
returns-clause-words g c = subst AreWords (sym (c.of_head.ensures ∙ ap fields_of_head c.as_block.ensures.same)) (head_words c.self.inside.lines c.as_block.ensures.clean c.as_block.ensures.octets)
