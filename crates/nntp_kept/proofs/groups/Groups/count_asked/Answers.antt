use Rattle.std.proofs.{Common.{arith}, lemmas.{Grind.{common_steps}, Iterator.Consumers.{YieldsList-at, YieldsList-from_rest, YieldsList-from_filter}}}
use Rattle.std.{proofs.lemmas.{Iterator.Consumers.{count_from_yields_List}, List.{Folds.{fold-map}, Sums.{length-filter}}}, specs.List.{count_by}}
use Rattle.nntp_kept.proofs.Base.{◌+◌, cond, sym, ap, ◌∙◌, rules, nat_cmp, slice_cmp, nat_list_cmp_total, entries, octet_keys, is_asked, entries-shown}
use Rattle.nntp_kept.proofs.Base.{shown_entry, Name, KeptGroup, tests}
use Rattle.nntp_kept.proofs.groups.Groups.count_asked.Goals as goal

pub returns : goal.returns
returns g c =
    let es = c.self.inside.groups.entries in
    let asked = λ (e : Name × KeptGroup). is_asked c.args.wildmat.now e.0 in
    let counted = count_from_yields_List c.filter.result c.count.result c.count.ensures.ran
    (YieldsList-from_filter _ (λ e. asked (e.0.items, e.1)) (YieldsList-at c.filter.ensures.source (YieldsList-from_rest es c.iter.ensures.rest))
    c.filter.ensures.closure (λ x b q k. search (rules, tests))) in
    let shown = entries-shown (slice_cmp nat_cmp) (λ k. k.items) (λ v. v) nat_list_cmp_total octet_keys es c.iter.ensures.ordered in
    counted ∙ length-filter (λ e. asked (e.0.items, e.1)) es ∙ sym (fold-map (λ n e. n + cond (asked e) 1 0) (shown_entry (λ k. k.items) (λ v. v)) 0 es)
    ∙ ap (count_by asked) (sym shown) ∙ ap (λ m. count_by asked (entries m)) c.self.view_is

pub count-requires-clause-fits : goal.count-requires-clause-fits
count-requires-clause-fits g c = grind (arith, common_steps)
