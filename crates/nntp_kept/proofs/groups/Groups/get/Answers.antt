use Rattle.nntp_kept.proofs.Base.{arith, nat_cmp, slice_cmp, nat_list_cmp_total, get-shown, option_map_id}
use Rattle.nntp_kept.proofs.groups.Groups.get.Goals as goal

pub returns : goal.returns
returns g c = grind (arith, option_map_id, get-shown (slice_cmp nat_cmp) (λ k. k.items) (λ v. v) nat_list_cmp_total c.self.inside.groups.entries c.args.name.now)
