use Rattle.std.{proofs.Common.{ap, ◌∙◌}, specs.{Ordering.{nat_cmp}, Cmp.Lexicographic.{slice_cmp, nat_list_cmp_total}}}
use Rattle.nntp_article.proofs.ShownMaps.{insert-shown, octet_keys}
use Rattle.std.specs.FinMap as map
use Rattle.nntp_article.proofs.session.visible.Visible.note_low.Goals as goal

pub returns-clause-ok : goal.returns-clause-ok
returns-clause-ok g c =
    let is = insert-shown (slice_cmp nat_cmp) (λ k. k.items) (λ v. v) nat_list_cmp_total octet_keys c.self.inside.lows.entries _ c.in_ok-from_slice.field-0 c.args.low
    c.in_ok-insert.ensures.entries in
    let lows = is ∙ ap (λ v. map.insert v.lows c.in_ok-from_slice.field-0.items c.args.low) c.self.view_is ∙ ap (λ k. map.insert c.args.self.now.lows k c.args.low) c.in_ok-from_slice.ensures.items in
    λ i. record { closed = (c.self.view_is i).closed; selected = (c.self.view_is i).selected; lows = lows i }
