use Rattle.std.{proofs.Common.{◌-◌, length, ap, ◌∙◌}, specs.{List.{slice_get}, Ordering.{nat_cmp, is_lt}, Cmp.Lexicographic.{slice_cmp, nat_list_cmp_total}}}
use Rattle.std.specs.String.{string_bytes}
use Rattle.nntp_content.proofs.{GatheredEntries.{last_listed, none_listed, none_shown}, ShownMaps.{octet_keys}}
use Rattle.nntp_content.proofs.gathered.Gathered.is_after_groups.Goals as goal

pub returns-in-Some : goal.returns-in-Some
returns-in-Some g c =
    c.is_lt.ensures ∙ ap is_lt (c.cmp.ensures ∙ ap (λ name. slice_cmp nat_cmp name c.args.name.now) c.as_str.ensures.value)
    ∙ last_listed (slice_cmp nat_cmp) string_bytes (λ v. v) nat_list_cmp_total octet_keys c.self.inside.groups.items c.args.self.now.groups _ c.args.name.now
    c.self.invariant.names (ap (λ s. s.groups) c.self.view_is) (c.in-Some.ensures.value ∙ ap (λ es. slice_get es (length es - 1)) c.deref.ensures.value)

pub returns-in-None : goal.returns-in-None
returns-in-None g c =
    none_shown (slice_cmp nat_cmp) string_bytes (λ v. v) nat_list_cmp_total octet_keys c.self.inside.groups.items c.args.self.now.groups c.args.name.now
    (ap (λ s. s.groups) c.self.view_is) (none_listed c.self.inside.groups.items (c.in-None.ensures.value ∙ ap (λ es. slice_get es (length es - 1)) c.deref.ensures.value))
