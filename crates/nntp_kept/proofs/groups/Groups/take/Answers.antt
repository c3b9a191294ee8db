use Rattle.nntp_kept.{proofs.Base.{ap, sym, ◌∙◌, nat_cmp, slice_cmp, nat_list_cmp_total, entries-shown, octet_keys, shown}, specs.Inner.Readers.{shown_in}}
use Rattle.nntp_kept.specs.Inner.{Readers.{shown_groups}, ReadersView.{named}}
use Rattle.nntp_kept.proofs.groups.Groups.take.Goals as goal

pub returns : goal.returns
returns g c =
    let given = c.into_iter.ensures.into_iter_gives in
    let listed = entries-shown (slice_cmp nat_cmp) (λ k. k.items) (λ v. v) nat_list_cmp_total octet_keys c.replace-groups.result.entries given.5 in
    c.new-2.ensures ∙ ap (λ es. shown_in (named es)) given.0 ∙ ap shown_in (sym listed)
    ∙ ap (λ m. shown_groups (shown (slice_cmp nat_cmp) (λ k. k.items) (λ v. v) m.entries)) c.replace-groups.ensures.value ∙ ap shown_groups c.self.view_is
