use Rattle.nntp_kept.proofs.{Base.{nat_cmp, slice_cmp, nat_list_cmp_total, rc_str_bytes, arith, get-shown, option_map_id}, Keeping.HeldIds.{place_beside}}
use Rattle.nntp_kept.proofs.numbered_ids.NumberedIds.place.Goals as goal

pub returns : goal.returns
returns g c = grind (arith, place_beside, option_map_id, get-shown (slice_cmp nat_cmp) rc_str_bytes (λ v. v) nat_list_cmp_total c.self.inside.places.entries c.args.id.now)
