use Rattle.std.proofs.Common.{◌∙◌, ap}
use Rattle.nntp_article.{specs.Article.Fields.{fields_of_head}, proofs.ArticleLemmas.WordsOfLines.{head_words}}
use Rattle.nntp_unit_tests.proofs.article.made_of.Goals as goal

pub of-requires : goal.of-requires
of-requires g c = rw (c.of_head.ensures ∙ ap fields_of_head c.as_block.ensures.same) (head_words c.in_ok-lines.lines c.as_block.ensures.clean c.as_block.ensures.octets)
