use Rattle.std.{proofs.Common.{sym, ap, ◌∙◌}, specs.{Ordering.{nat_cmp}, Cmp.Lexicographic.{slice_cmp, nat_list_cmp_total}, String.{string_bytes}}}
use Rattle.nntp_article.proofs.ShownMaps.{len-shown, octet_keys}
use Rattle.std.specs.FinMap as map
use Rattle.nntp_content.proofs.content.Content.count_groups.Goals as goal

pub returns : goal.returns
returns g c =
    c.len.ensures.len ∙ sym (len-shown (slice_cmp nat_cmp) string_bytes (λ v. v) nat_list_cmp_total octet_keys _ c.len.ensures.ordered)
    ∙ ap (λ s. map.len s.groups) c.self.view_is
