use Rattle.std.{proofs.Common.{rules}, specs.{Cmp.Lexicographic.{slice_cmp, nat_list_cmp_total}, Ordering.{nat_cmp}, Rc.{rc_str_bytes}}}
use Rattle.nntp_article.proofs.ShownMaps.{entries-shown}
use Rattle.nntp_content.{specs.Inner.ArticleLines.{text_stored}, proofs.ShownMaps.{octet_keys}}
use Rattle.nntp_store.{specs.Text.{with_line_ends, article_lines}, proofs.Written.{text_of_articles, with_line_ends-append}}
use Rattle.nntp_store.proofs.text.write.put_articles_of_map.Goals as goal

pub returns : goal.returns
returns g c =
    let all = entries-shown (slice_cmp nat_cmp) rc_str_bytes text_stored nat_list_cmp_total octet_keys c.args.articles.now.entries c.iter.ensures.ordered in
    let p = c.put_each.ensures text_of_articles (λ x. with_line_ends (article_lines (rc_str_bytes x.0.now, text_stored x.1.now))) (record {
      none = λ s t e. rw e.0;
      some = λ s t x e. rw e (with_line_ends-append (article_lines _) _);
      puts = λ x old new r next f. (search rules, search rules);
    }) in
    rw (c.iter.ensures.rest, ← all) at p
