use Rattle.nntp_kept.proofs.Base.{arith, nat_cmp, nat_cmp_total, slice_cmp, nat_list_cmp_total, rc_str_bytes, insert-shown, octet_keys}
use Rattle.std.specs.FinMap as map
use Rattle.nntp_kept.proofs.numbered_ids.add_to_maps.Goals as goal

pub returns-clause-ids : goal.returns-clause-ids
returns-clause-ids g c =
    let inserted = insert-shown nat_cmp (λ k. k) rc_str_bytes nat_cmp_total map.nat_cmp-IsAntisymmetric c.args.ids.now.entries _ c.in-Some.held.number
    c.in_ok-clone.field-0 c.in_ok-insert.ensures.entries in
    grind (arith, inserted, c.in_ok-clone.ensures.cases, c.in-Some.is)

pub returns-clause-places : goal.returns-clause-places
returns-clause-places g c =
    let inserted = insert-shown (slice_cmp nat_cmp) rc_str_bytes (λ v. v) nat_list_cmp_total octet_keys c.args.places.now.entries _ c.in-Some.held.id c.in-Some.held.number
    c.in_ok-insert-2.ensures.entries in
    grind (arith, inserted, c.in-Some.is)
