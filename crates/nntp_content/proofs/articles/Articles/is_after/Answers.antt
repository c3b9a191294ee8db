use Rattle.std.{proofs.{Common.{◌<◌, ◌-◌, length, sym, ap, ◌∙◌, arith}, lemmas.{Bool.{true≢false}, List.{nil_from_length}}}, specs.List.{slice_get}}
use Rattle.std.specs.{Ordering.{nat_cmp}, Cmp.Lexicographic.{slice_cmp, nat_list_cmp_total}, Rc.{rc_str_bytes}}
use Rattle.nntp_content.{specs.Inner.ArticleLines.{text_stored}, proofs.GatheredEntries.{last_listed, none_listed, last_shown, none_shown}}
use Rattle.nntp_content.proofs.ShownMaps.{octet_keys}
use Rattle.nntp_content.proofs.articles.Articles.is_after.Goals as goal

pub returns-in-Some : goal.returns-in-Some
returns-in-Some g c =
    c.is_below.ensures ∙ last_listed (slice_cmp nat_cmp) rc_str_bytes text_stored nat_list_cmp_total octet_keys c.in-InOrder.articles.items c.args.self.now _ c.args.id.now
    (rw c.in-InOrder.is at c.self.invariant) (rw c.in-InOrder.is at c.self.view_is) (c.in-Some.ensures.value ∙ ap (λ es. slice_get es (length es - 1)) c.deref.ensures.value)

pub returns-in-None : goal.returns-in-None
returns-in-None g c =
    none_shown (slice_cmp nat_cmp) rc_str_bytes text_stored nat_list_cmp_total octet_keys c.in-InOrder.articles.items c.args.self.now c.args.id.now
    (rw c.in-InOrder.is at c.self.view_is) (none_listed _ (c.in-None.ensures.value ∙ ap (λ es. slice_get es (length es - 1)) c.deref.ensures.value))

pub returns-in-Some-last_key_value : goal.returns-in-Some-last_key_value
returns-in-Some-last_key_value g c =
    let last = c.in-Some-last_key_value in
    c.is_below-in-Some-last_key_value.ensures
    ∙ last_shown (slice_cmp nat_cmp) rc_str_bytes text_stored nat_list_cmp_total octet_keys c.in-InAnyOrder.articles.entries c.args.self.now last.greatest.now _ c.args.id.now
    (rw c.in-InAnyOrder.is at c.self.view_is) last.ensures.value last.ensures.all_up_to

pub returns-in-None-last_key_value : goal.returns-in-None-last_key_value
returns-in-None-last_key_value g c =
    let none : 0 < length c.in-InAnyOrder.articles.entries → ⊥ = λ p. true≢false (sym (c.in-None-last_key_value.ensures.variant.1 p)) in
    none_shown (slice_cmp nat_cmp) rc_str_bytes text_stored nat_list_cmp_total octet_keys c.in-InAnyOrder.articles.entries c.args.self.now c.args.id.now
    (rw c.in-InAnyOrder.is at c.self.view_is) (nil_from_length _ (omega (arith, none)))
