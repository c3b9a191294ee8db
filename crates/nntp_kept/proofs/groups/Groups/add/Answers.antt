use Rattle.nntp_kept.proofs.Base.{◌≡◌, Some, sym, subst, ap, ◌∙◌, nat_cmp, slice_cmp, nat_list_cmp_total, replaced, id_at, AreKept, MayHave, ids_with}
use Rattle.nntp_kept.proofs.Base.{places_with, IsSummary, ◌++◌, on_ok, None, octet_keys, insert, empty, shown, option_copied_mut, missing, on_both}
use Rattle.nntp_kept.proofs.Keeping.KeptGroups.{kept_of, part_kept, may_have_told, empty_may_have, empty_agree, agree_kept}
use Rattle.nntp_kept.proofs.groups.Groups.add.Goals as goal

pub returns-in-Some : goal.returns-in-Some
returns-in-Some g c =
    let M = c.args.self.now in
    let name = c.args.part.now.name.now in
    let id = id_at c.args.part.now.id in
    let old = c.in-Some.group.now in
    let new = c.add.new.self in
    let r = replaced (slice_cmp nat_cmp) (λ k. k.items) (λ v. v) nat_list_cmp_total octet_keys c.self.inside.groups.entries _ M name old new c.self.view_is c.in-Some.ensures.value
    (c.get_mut.follows.holds new).0 in
    on_both c.add.result (λ numbers ids before asks text kept says bounded each free after changes.
    let was = kept_of before M name (Some old) r.1 kept in
    let grown = ids text (agree_kept (before name) old id was each) ((may_have_told (before name) old id was.ids was.places).1 free) in
    subst (AreKept after) (sym r.0) (part_kept before after M name (Some old) new asks id kept r.1 bounded free changes
    (numbers (before name).asks asks was.numbers says) grown.0 grown.1)) c.add.ensures.numbers c.add.ensures.ids

pub returns : goal.returns
returns g c =
    let M = c.args.self.now in
    let name = c.args.part.now.name.now in
    let id = id_at c.args.part.now.id in
    let group = c.add-2.new.self in
    let none = missing (slice_cmp nat_cmp) (λ k. k.items) (λ v. v) nat_list_cmp_total octet_keys c.self.inside.groups.entries M name c.self.view_is
    (ap option_copied_mut (sym c.in_default.is) ∙ c.get_mut.ensures.value) in
    let begun = c.new-details.ensures.ids in
    on_ok c.put.result (λ is before asks text kept says bounded each free after changes.
    let was = kept_of before M name _ none kept in
    let grown = c.in_ok-add.ensures.ids text (empty_agree c.new-details.result id begun.0)
    (subst (λ ids. MayHave ids c.new-details.result.places id) (sym begun.0) (subst (λ places. MayHave empty places id) (sym begun.1) (empty_may_have id))) in
    let whole : c.put.new.self ≡ insert M name group = is
    ∙ (λ i. insert (shown (slice_cmp nat_cmp) (λ k. k.items) (λ v. v) (c.get_mut.follows.holds-at-none i).entries) name
    (c.in_ok-of.ensures i)) ∙ ap (λ m. insert m name group) c.self.view_is in
    subst (AreKept after) (sym whole) (part_kept before after M name None group asks id kept none bounded free changes
    (subst (λ asked. IsSummary group.numbers (asked ++ asks)) (sym was.no_asks) (c.in_ok-add.ensures.numbers _ asks c.new-details.ensures.numbers says))
    (grown.0 ∙ ap (λ ids. ids_with ids id) begun.0) (grown.1 ∙ ap (λ places. places_with places id) begun.1))) c.put.ensures
