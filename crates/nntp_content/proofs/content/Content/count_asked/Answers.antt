use Rattle.std.proofs.{Common.{arith, rules, sym, ap, ◌∙◌}, lemmas.Iterator.Consumers.{YieldsList-at, YieldsList-from_rest, YieldsList-from_filter}}
use Rattle.std.proofs.lemmas.{Iterator.Consumers.{count_from_yields_List}, List.{Folds.{fold-map}, Sums.{length-filter}}, Grind.{common_steps}}
use Rattle.std.specs.{List.{count_by}, String.{string_bytes}}
use borrow.Author.Tests.{tests}
use Rattle.nntp_article.specs.{Inner.ShownMap.{shown_entry}, Session.Spool.{Name, Numbers}}
use Rattle.nntp_wire.specs.Inner.Decided.{is_asked}
use Rattle.nntp_content.proofs.ShownMaps.{group_entries}
use Rattle.nntp_content.proofs.content.Content.count_asked.Goals as goal

pub returns : goal.returns
returns g c =
    let es = c.self.inside.groups.entries in
    let asked = λ (e : Name × Numbers). is_asked c.args.wildmat.now e.0 in
    let counted = count_from_yields_List c.filter.result c.count.result c.count.ensures.ran
    (YieldsList-from_filter _ (λ e. asked (string_bytes e.0, e.1))
    (YieldsList-at c.filter.ensures.source (YieldsList-from_rest es c.iter.ensures.rest)) c.filter.ensures.closure
    (λ x b q k. search (rules, tests))) in
    let shown = ap (count_by asked) (group_entries es c.args.self.now.groups (ap (λ s. s.groups) c.self.view_is) c.iter.ensures.ordered) in
    counted ∙ length-filter (λ e. asked (string_bytes e.0, e.1)) es ∙ sym (fold-map _ (shown_entry string_bytes (λ N. N)) 0 es) ∙ shown

pub count-requires-clause-fits : goal.count-requires-clause-fits
count-requires-clause-fits g c = grind (arith, common_steps)
