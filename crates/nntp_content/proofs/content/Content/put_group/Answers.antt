use Rattle.std.{proofs.Common.{ap, ◌∙◌}, specs.{Ordering.{nat_cmp}, Cmp.Lexicographic.{slice_cmp, nat_list_cmp_total}, String.{string_bytes}}}
use Rattle.nntp_article.proofs.ShownMaps.{insert-shown}
use Rattle.nntp_content.proofs.ShownMaps.{octet_keys, spool_is}
use Rattle.std.specs.FinMap as map
use Rattle.nntp_content.proofs.content.Content.put_group.Goals as goal

pub returns-clause-ok : goal.returns-clause-ok
returns-clause-ok g c =
    let is = insert-shown (slice_cmp nat_cmp) string_bytes (λ v. v) nat_list_cmp_total octet_keys c.self.inside.groups.entries _ c.args.name c.args.numbers
    c.in_ok-insert.ensures.entries ∙ ap (λ s. map.insert s.groups (string_bytes c.args.name) c.args.numbers) c.self.view_is in
    spool_is _ _ is (ap (λ s. s.articles) c.self.view_is)
