use Rattle.std.{proofs.Common.{sym, ap, ◌∙◌}, specs.{Ordering.{nat_cmp}, Cmp.Lexicographic.{slice_cmp, nat_list_cmp_total}}}
use Rattle.nntp_article.proofs.ShownMaps.{get-shown, option_map_id}
use Rattle.std.specs.FinMap as map
use Rattle.nntp_article.proofs.session.visible.Visible.low.Goals as goal

pub returns : goal.returns
returns g c =
    sym (ap (λ v. map.get v.lows c.args.name.now) c.self.view_is) ∙ get-shown (slice_cmp nat_cmp) (λ k. k.items) (λ v. v) nat_list_cmp_total c.self.inside.lows.entries c.args.name.now
    ∙ option_map_id _ ∙ sym c.get.ensures.value ∙ sym c.copied.ensures
