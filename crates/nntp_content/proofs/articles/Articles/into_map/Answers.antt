use Rattle.std.{proofs.Common.{ap, ◌∙◌}, specs.{Cmp.Lexicographic.{slice_cmp, nat_list_cmp_total}, FinMap.{is_sorted}, Ordering.{nat_cmp}, Rc.{rc_str_bytes}}}
use Rattle.nntp_content.{specs.Inner.ArticleLines.{text_stored}, proofs.{GatheredEntries.{sorted_listed}, ShownMaps.{octet_keys}}}
use Rattle.nntp_content.proofs.articles.Articles.into_map.Goals as goal

pub map_of-requires : goal.map_of-requires
map_of-requires g c =
    ap (λ v. is_sorted (λ a b. slice_cmp nat_cmp (rc_str_bytes a) (rc_str_bytes b)) v.items) c.in-InOrder.articles-is
    ∙ sorted_listed (slice_cmp nat_cmp) rc_str_bytes text_stored nat_list_cmp_total octet_keys c.in-InOrder.articles.items (rw c.in-InOrder.is at c.self.invariant)
