use Rattle.nntp_kept.proofs.{Base.{nat_cmp, nat_cmp_total, rc_str_bytes, arith, get-shown}, Keeping.HeldIds.{id_beside}}
use Rattle.nntp_kept.proofs.numbered_ids.NumberedIds.id.Goals as goal

pub returns : goal.returns
returns g c = grind (arith, id_beside, get-shown nat_cmp (λ k. k) (λ v. rc_str_bytes v) nat_cmp_total c.self.inside.ids.entries c.args.number)
