use Rattle.std.{proofs.{Common.{sym, ap, ◌∙◌, arith}, lemmas.Iterator.{Search.{all_from_yields_List}, Consumers.{YieldsList-from_rest}}}, specs.List.{list_all}}
use Rattle.std.specs.String.{string_bytes}
use Rattle.nntp_article.{specs.{Inner.ShownMap.{shown_entry}, Session.Spool.{Name, Numbers}}, proofs.ShownMaps.{list_all-map}}
use Rattle.nntp_content.{specs.Content.{all_known}, proofs.ShownMaps.{group_entries}}
use Rattle.nntp_content.proofs.content.Content.has_articles.Goals as goal

pub returns-clause-value : goal.returns-clause-value
returns-clause-value g c =
    let es = c.self.inside.groups.entries in
    let known = λ (e : Name × Numbers). all_known c.args.self.now e.1 in
    let all = all_from_yields_List (λ e. known (string_bytes e.0, e.1)) _ _ c.all.result c.all.ensures.ran (YieldsList-from_rest es c.iter.ensures.rest) (λ x b q k. grind arith) in
    all ∙ sym (list_all-map known (shown_entry string_bytes (λ N. N)) es) ∙ ap (list_all known) (group_entries es c.args.self.now.groups (ap (λ s. s.groups) c.self.view_is) c.iter.ensures.ordered)

pub returns-clause-line_counts : goal.returns-clause-line_counts
returns-clause-line_counts g c = rw (← c.self.view_is) c.self.invariant.0
