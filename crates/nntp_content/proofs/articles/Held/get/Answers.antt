use Rattle.std.{proofs.Common.{option_map, ap, sym, ◌∙◌}, specs.{Ordering.{nat_cmp}, Cmp.Lexicographic.{slice_cmp, nat_list_cmp_total}, Rc.{rc_str_bytes}}}
use Rattle.nntp_content.specs.Inner.{ArticleLines.{text_stored}, ArticlesView.{articles_shown, entries_held}}
use Rattle.nntp_article.proofs.ShownMaps.{get-shown, option_map-option_map}
use Rattle.std.specs.FinMap as map
use Rattle.nntp_content.proofs.articles.Held.get.Goals as goal

pub returns-in-InAnyOrder : goal.returns-in-InAnyOrder
returns-in-InAnyOrder g c =
    option_map-option_map (λ r. r.now) text_stored c.get.result ∙ ap (option_map text_stored) c.get.ensures.value
    ∙ sym (get-shown (slice_cmp nat_cmp) rc_str_bytes text_stored nat_list_cmp_total c.in-InAnyOrder.articles.entries c.args.id.now)
    ∙ ap (λ h. map.get (articles_shown (entries_held h)) c.args.id.now) (sym c.in-InAnyOrder.is)
