use Rattle.nntp_kept_articles.proofs.Base.{ap, sym, map, ◌∙◌, nat_cmp, slice_cmp, nat_list_cmp_total, rc_str_bytes, entries-shown, known_article, octet_keys}
use Rattle.nntp_kept_articles.{proofs.KeptIds.{articles-with_denied}, specs.Inner.Readers.{shown_article, shown_articles, articles_shown_in}}
use Rattle.nntp_kept_articles.specs.Inner.{Articles.{with_denied}, ArticleView.{entries_value, articles_known}}
use Rattle.nntp_kept_articles.proofs.articles.Articles.take.Goals as goal

pub returns : goal.returns
returns g c =
    let given = c.into_iter.ensures.into_iter_gives in
    let es = c.replace-known.result.entries in
    let ids = map (λ id. id.items) c.self.inside.denied.keys in
    let listed = entries-shown (slice_cmp nat_cmp) rc_str_bytes known_article nat_list_cmp_total octet_keys es given.5 in
    c.new-2.ensures ∙ ap (λ es. articles_shown_in (entries_value es)) given.0 ∙ ap articles_shown_in (sym listed)
    ∙ ap (map (λ e. shown_article e.0 e.1)) (sym (articles-with_denied (articles_known es) ids))
    ∙ ap (λ m. shown_articles (with_denied (articles_known m.entries) ids)) c.replace-known.ensures.value ∙ ap shown_articles c.self.view_is
