use Rattle.std.{proofs.Common.{◌≡◌, Some, refl, ap, ◌∙◌}, specs.{Ordering.{nat_cmp}, Cmp.Lexicographic.{slice_cmp, nat_list_cmp_total}}}
use Rattle.nntp_article.proofs.ShownMaps.{insert-shown}
use Rattle.nntp_spool.{specs.Inner.AskedCounts.{with_count}, proofs.AskedCounts.{counts_are}}
use Rattle.nntp_content.proofs.ShownMaps.{octet_keys}
use Rattle.nntp_spool.proofs.verification.asked_counts.AskedCounts.remember.Goals as goal

pub returns-in_ok-insert-in-Some : goal.returns-in_ok-insert-in-Some
returns-in_ok-insert-in-Some g c =
    let octets = c.in_ok-octets-in-Some.octets in
    let named : Some c.as_slice.result.now ≡ c.args.wildmat.now = cc (c.in-Some.is, c.as_slice.ensures.value) in
    let whole : Some octets.items ≡ c.args.wildmat.now = ap Some c.in_ok-octets-in-Some.ensures.items ∙ named in
    let is = insert-shown (slice_cmp nat_cmp) (λ k. k.items)
    (λ v. v) nat_list_cmp_total octet_keys c.self.inside.by_wildmat.entries c.insert.new.self.entries octets c.args.count
    c.in_ok-insert-in-Some.ensures.entries in
    counts_are _ _ refl is ∙ ap (with_count (Some octets.items) c.args.count) c.self.view_is ∙ ap (λ p. with_count p c.args.count c.args.self.now) whole
