use Rattle.std.{proofs.Common.{ap, ◌∙◌}, specs.{Ordering.{nat_cmp}, Cmp.Lexicographic.{slice_cmp, nat_list_cmp_total}, FinMap.{insert}, String.{string_bytes}}}
use Rattle.nntp_content.{specs.Ascending.{is_last}, proofs.{GatheredEntries.{one_more}, ShownMaps.{octet_keys, spool_is}}}
use Rattle.nntp_content.proofs.gathered.Gathered.push_group.Goals as goal

pub invariant_of-self-2 : goal.invariant_of-self-2
invariant_of-self-2 g c =
    let more = one_more (slice_cmp nat_cmp) string_bytes (λ v. v) nat_list_cmp_total octet_keys c.self.inside.groups.items _ c.args.name c.args.numbers
    c.self.invariant.names (ap (λ s. is_last s.groups (string_bytes c.args.name)) c.self.view_is ∙ c.requires) c.in_ok-push.ensures.items in
    record { names = more.0; line_counts = c.self.invariant.line_counts }

pub returns : goal.returns
returns g c =
    let more = one_more (slice_cmp nat_cmp) string_bytes (λ v. v) nat_list_cmp_total octet_keys c.self.inside.groups.items _ c.args.name c.args.numbers
    c.self.invariant.names (ap (λ s. is_last s.groups (string_bytes c.args.name)) c.self.view_is ∙ c.requires) c.in_ok-push.ensures.items in
    spool_is _ _ (more.1 ∙ ap (λ s. insert s.groups (string_bytes c.args.name) c.args.numbers) c.self.view_is) (ap (λ s. s.articles) c.self.view_is)
