use Rattle.std.{proofs.Common.{rules}, specs.String.{string_bytes}}
use Rattle.nntp_content.proofs.ShownMaps.{group_entries}
use Rattle.nntp_store.{specs.Text.{with_line_ends, group_lines}, proofs.Written.{text_of_groups, with_line_ends-append}}
use Rattle.nntp_store.proofs.text.write.put_all_groups.Goals as goal

pub returns : goal.returns
returns g c =
    let all = group_entries c.groups.result.now.entries c.args.content.now.groups c.groups.ensures c.iter.ensures.ordered in
    let p = c.put_each.ensures text_of_groups (λ x. with_line_ends (group_lines (string_bytes x.0.now, x.1.now))) (record {
      none = λ s t e. rw e.0;
      some = λ s t x e. rw e (with_line_ends-append (group_lines _) _);
      puts = λ x old new r next f. (search rules, search rules);
    }) in
    rw (c.iter.ensures.rest, all) at p
