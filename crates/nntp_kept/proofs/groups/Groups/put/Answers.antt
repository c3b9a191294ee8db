use Rattle.nntp_kept.proofs.Base.{ap, ◌∙◌, nat_cmp, slice_cmp, nat_list_cmp_total, insert-shown, octet_keys, insert}
use Rattle.nntp_kept.proofs.groups.Groups.put.Goals as goal

pub returns : goal.returns
returns g c =
    insert-shown (slice_cmp nat_cmp) (λ k. k.items) (λ v. v) nat_list_cmp_total octet_keys c.self.inside.groups.entries _ c.in_ok-from_slice.field-0 c.args.group c.in_ok-insert.ensures.entries
    ∙ ap (λ m. insert m c.in_ok-from_slice.field-0.items c.args.group) c.self.view_is ∙ ap (λ k. insert c.args.self.now k c.args.group) c.in_ok-from_slice.ensures.items
