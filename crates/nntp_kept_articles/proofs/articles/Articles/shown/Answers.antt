use Rattle.nntp_kept_articles.proofs.Base.{nat_cmp, slice_cmp, nat_list_cmp_total, rc_str_bytes, arith, entries-shown, known_article, octet_keys}
use Rattle.nntp_kept_articles.proofs.KeptIds.{articles-with_denied}
use Rattle.nntp_kept_articles.proofs.articles.Articles.shown.Goals as goal

pub returns : goal.returns
returns g c =
    let listed = entries-shown (slice_cmp nat_cmp) rc_str_bytes known_article nat_list_cmp_total octet_keys c.self.inside.known.entries c.iter.ensures.ordered in
    grind (arith, articles-with_denied)
