use Rattle.nntp_kept.{proofs.Base.{ap, sym, ◌∙◌, nat_cmp, slice_cmp, nat_list_cmp_total, entries-shown, octet_keys}, specs.Inner.Readers.{shown_in}}
use Rattle.nntp_kept.specs.Inner.{Readers.{shown_groups}, ReadersView.{named}}
use Rattle.nntp_kept.proofs.groups.Groups.shown.Goals as goal

pub returns : goal.returns
returns g c =
    let shown = entries-shown (slice_cmp nat_cmp) (λ k. k.items) (λ v. v) nat_list_cmp_total octet_keys c.self.inside.groups.entries c.iter.ensures.ordered in
    c.new.ensures ∙ ap (λ es. shown_in (named es)) c.iter.ensures.rest ∙ ap shown_in (sym shown) ∙ ap shown_groups c.self.view_is
