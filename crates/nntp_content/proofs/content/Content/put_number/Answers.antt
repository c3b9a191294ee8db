use Rattle.std.{proofs.{Common.{is_some, ap, sym, ◌∙◌}, lemmas.{Bool.{true≢false}, Result.{on_ok_weaker, on_err_weaker}}}, specs.Cmp.Lexicographic.{slice_cmp}}
use Rattle.std.specs.{Cmp.Lexicographic.{nat_list_cmp_total}, Option.{option_copied_mut}, Ordering.{nat_cmp}, Rc.{rc_str_bytes}, String.{string_bytes}}
use Rattle.nntp_article.proofs.ShownMaps.{replaced, insert-same}
use Rattle.nntp_content.proofs.ShownMaps.{number_in_group, octet_keys, spool_is, group_got}
use Rattle.std.specs.FinMap as map
use Rattle.nntp_content.proofs.content.Content.put_number.Goals as goal

pub returns-in_default : goal.returns-in_default
returns-in_default g c =
    let none = ap option_copied_mut (sym c.in_default.is) ∙ c.get_mut.ensures.value ∙ group_got _ c.args.self.now.groups c.args.name.now (ap (λ s. s.groups) c.self.view_is) in
    absurd (true≢false (sym c.requires.0 ∙ ap is_some (sym none)))

pub put-requires : goal.put-requires
put-requires g c = rw (sym (c.in-Some.ensures.value ∙ group_got _ c.args.self.now.groups c.args.name.now (ap (λ s. s.groups) c.self.view_is))) at c.requires.1

pub returns-clause-added : goal.returns-clause-added
returns-clause-added g c = rw (sym (c.in-Some.ensures.value ∙ group_got _ c.args.self.now.groups c.args.name.now (ap (λ s. s.groups) c.self.view_is))) c.put.ensures.added

pub returns-clause-absent : goal.returns-clause-absent
returns-clause-absent g c = rw (sym (c.in-Some.ensures.value ∙ group_got _ c.args.self.now.groups c.args.name.now (ap (λ s. s.groups) c.self.view_is))) c.put.ensures.absent

pub returns-clause-ok : goal.returns-clause-ok
returns-clause-ok g c =
    let S = c.args.self.now in
    let r = replaced (slice_cmp nat_cmp) string_bytes (λ v. v) nat_list_cmp_total octet_keys c.self.inside.groups.entries _ S.groups c.args.name.now c.in-Some.group.now c.put.new.self
    (ap (λ s. s.groups) c.self.view_is) c.in-Some.ensures.value (c.get_mut.follows.holds c.put.new.self).0 in
    on_ok_weaker c.put.result (λ made. number_in_group S _ c.args.name.now c.in-Some.group.now c.args.number (rc_str_bytes c.args.id.now) r.1
    (r.0 ∙ ap (map.insert S.groups c.args.name.now) made) (ap (λ s. s.articles) c.self.view_is)) c.put.ensures.ok

pub returns-clause-err : goal.returns-clause-err
returns-clause-err g c =
    let S = c.args.self.now in
    let r = replaced (slice_cmp nat_cmp) string_bytes (λ v. v) nat_list_cmp_total octet_keys c.self.inside.groups.entries _ S.groups c.args.name.now c.in-Some.group.now c.put.new.self
    (ap (λ s. s.groups) c.self.view_is) c.in-Some.ensures.value (c.get_mut.follows.holds c.put.new.self).0 in
    on_err_weaker c.put.result (λ same. spool_is _ S (r.0 ∙ ap (map.insert S.groups c.args.name.now) same ∙ insert-same nat_list_cmp_total octet_keys S.groups c.args.name.now _ r.1)
    (ap (λ s. s.articles) c.self.view_is)) c.put.ensures.err
