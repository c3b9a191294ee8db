use Rattle.std.{proofs.Common.{◌≡◌, Some, ap, sym, ◌∙◌}, specs.{Ordering.{nat_cmp}, Cmp.Lexicographic.{slice_cmp, nat_list_cmp_total}}}
use Rattle.nntp_article.proofs.ShownMaps.{get-shown, option_map_id}
use Rattle.nntp_spool.specs.Inner.AskedCounts.{remembered}
use Rattle.std.specs.FinMap as map
use Rattle.nntp_spool.proofs.verification.asked_counts.AskedCounts.remembered.Goals as goal

pub returns-in-Some : goal.returns-in-Some
returns-in-Some g c =
    let w = c.as_slice.result.now in
    let whole : Some w ≡ c.args.wildmat.now = cc in
    c.copied.ensures ∙ c.get.ensures.value ∙ sym (option_map_id _)
    ∙ sym (get-shown (slice_cmp nat_cmp) (λ k. k.items) (λ v. v) nat_list_cmp_total c.self.inside.by_wildmat.entries w)
    ∙ ap (λ counts. map.get counts.by_wildmat w) c.self.view_is ∙ ap (remembered c.args.self.now) whole
