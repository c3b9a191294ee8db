use Rattle.std.{proofs.{Common.{rules}, lemmas.List.{nil_from_length}}, specs.{Cmp.Lexicographic.{slice_cmp, nat_list_cmp_total}, Ordering.{nat_cmp}}}
use Rattle.std.specs.{Rc.{rc_str_bytes}, Slice.Iter.{iter_rest}}
use Rattle.nntp_article.proofs.ShownMaps.{entries-ascending}
use Rattle.nntp_content.{specs.Inner.ArticleLines.{text_stored}, proofs.ShownMaps.{octet_keys}}
use Rattle.nntp_store.{specs.Text.{with_line_ends, article_lines}, proofs.Written.{text_of_articles, with_line_ends-append}}
use Rattle.nntp_store.proofs.text.write.put_articles.Goals as goal

pub returns : goal.returns
returns g c =
    let all = entries-ascending (slice_cmp nat_cmp) rc_str_bytes text_stored nat_list_cmp_total octet_keys c.args.articles.now c.requires in
    let p = c.put_each.ensures (λ s. text_of_articles (iter_rest s)) (λ x. with_line_ends (article_lines (rc_str_bytes x.now.0, text_stored x.now.1))) (record {
      none = λ s t e. rw (nil_from_length _ e.0);
      some = λ s t x e. rw e (with_line_ends-append (article_lines _) _);
      puts = λ x old new r next f. (search rules, search rules);
    }) in
    rw (c.iter.ensures.rest, ← all) at p
