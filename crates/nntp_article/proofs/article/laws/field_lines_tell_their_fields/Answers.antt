use Rattle.nntp_article.proofs.ArticleLemmas.FieldLemmas.{lines_tell}
use Rattle.nntp_article.proofs.article.laws.field_lines_tell_their_fields.Goals as goal

pub returns : goal.returns
returns c = λ fields words. lines_tell fields words
