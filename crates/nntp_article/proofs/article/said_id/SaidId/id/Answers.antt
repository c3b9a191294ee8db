use Rattle.std.proofs.Common.{◌∙◌}
use Rattle.nntp_article.proofs.ArticleLemmas.SaidLemmas.{tested-id, ended-word}
use Rattle.nntp_article.proofs.article.said_id.SaidId.id.Goals as goal

pub returns-in-Word : goal.returns-in-Word
returns-in-Word c = tested-id c.in-Word.word.now c.parse.result c.parse.ensures ∙ ended-word c.args.self.found c.args.self.is_open c.in-Word.word c.in-Word.is
