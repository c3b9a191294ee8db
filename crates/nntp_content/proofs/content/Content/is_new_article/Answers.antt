use Rattle.std.{proofs.Common.{is_none, ap, sym, ◌∙◌}, specs.Cmp.Lexicographic.{nat_list_cmp_total}}
use Rattle.nntp_content.proofs.MapEntries.{absent_above}
use Rattle.nntp_content.proofs.content.Content.is_new_article.Goals as goal

pub returns-then-is_after_articles : goal.returns-then-is_after_articles
returns-then-is_after_articles g c =
    let after = c.if-is_after_articles.true in
    after ∙ sym (ap is_none (absent_above nat_list_cmp_total c.args.self.now.articles c.args.id.now (sym c.is_after_articles.ensures ∙ after)))
