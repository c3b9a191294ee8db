use Rattle.std.{proofs.Common.{ap, ◌∙◌}, specs.{Ordering.{nat_cmp}, Cmp.Lexicographic.{slice_cmp, nat_list_cmp_total}, Rc.{rc_str_bytes}}}
use Rattle.nntp_content.{specs.Inner.ArticleLines.{text_stored}, proofs.ShownMaps.{octet_keys}}
use Rattle.nntp_article.proofs.ShownMaps.{insert-shown}
use Rattle.std.specs.FinMap as map
use Rattle.nntp_content.proofs.articles.Articles.insert.Goals as goal

pub returns-clause-ok : goal.returns-clause-ok
returns-clause-ok g c =
    insert-shown (slice_cmp nat_cmp) rc_str_bytes text_stored nat_list_cmp_total octet_keys c.in_ok-articles.articles.entries _ c.args.id c.args.article c.in_ok-insert.ensures.entries
    ∙ ap (λ m. map.insert m (rc_str_bytes c.args.id) (text_stored c.args.article)) (c.in_ok-articles.ensures ∙ c.replace.ensures.value)
