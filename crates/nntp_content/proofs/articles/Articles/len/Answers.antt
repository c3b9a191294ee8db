use Rattle.std.{proofs.Common.{sym, ap, ◌∙◌}, specs.{Ordering.{nat_cmp}, Cmp.Lexicographic.{slice_cmp, nat_list_cmp_total}, Rc.{rc_str_bytes}}}
use Rattle.nntp_content.{specs.Inner.ArticleLines.{text_stored}, proofs.ShownMaps.{octet_keys}}
use Rattle.nntp_article.proofs.ShownMaps.{len-shown, len-ascending}
use Rattle.std.specs.FinMap as map
use Rattle.nntp_content.proofs.articles.Articles.len.Goals as goal

pub returns-in-InOrder : goal.returns-in-InOrder
returns-in-InOrder g c =
    c.len.ensures ∙ c.in-InOrder.articles.ok.0
    ∙ sym (len-ascending (slice_cmp nat_cmp) rc_str_bytes text_stored nat_list_cmp_total octet_keys _ (rw c.in-InOrder.is at c.self.invariant))
    ∙ ap map.len (rw c.in-InOrder.is at c.self.view_is)

pub returns-in-InAnyOrder : goal.returns-in-InAnyOrder
returns-in-InAnyOrder g c =
    c.len-in-InAnyOrder.ensures.len
    ∙ sym (len-shown (slice_cmp nat_cmp) rc_str_bytes text_stored nat_list_cmp_total octet_keys _ c.len-in-InAnyOrder.ensures.ordered)
    ∙ ap map.len (rw c.in-InAnyOrder.is at c.self.view_is)
