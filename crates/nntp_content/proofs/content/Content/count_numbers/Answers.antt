use Rattle.std.proofs.{Common.{◌≡◌, List, ◌<◌, ◌^◌, length, sym, ap, subst, ◌∙◌, sum, map as list_map, arith}, lemmas.{Simd.{map-map}, Grind.{common_steps}}}
use Rattle.std.specs.String.{string_bytes}
use Rattle.nntp_article.specs.{Inner.ShownMap.{shown_entry}, Session.Spool.{Name, Numbers}}
use Rattle.nntp_content.{specs.Counts.{numbers_in}, proofs.ShownMaps.{group_entries}}
use Rattle.std.specs.FinMap as map
use Rattle.nntp_content.proofs.content.Content.count_numbers.Goals as goal

pub loop-numbers-init : goal.loop-numbers-init
loop-numbers-init g c =
    let es = c.self.inside.groups.entries in
    let total = λ (fs : List (Name × Numbers)). sum (list_map (λ e. map.len e.1) fs) in
    let shown = group_entries es c.args.self.now.groups (ap (λ s. s.groups) c.self.view_is) c.iter-entries.ensures.ordered in
    let all : sum (list_map (λ e. map.len e.1) c.iter-entries.result) ≡ numbers_in c.args.self.now =
    ap (λ fs. sum (list_map (λ e. map.len e.1) fs)) c.iter-entries.ensures.rest ∙ ap sum (sym (map-map (λ e. map.len e.1) (shown_entry string_bytes (λ N. N)) es)) ∙ ap total shown in
    let few : length c.iter-entries.result < 2 ^ 63 = subst (λ n. n < 2 ^ 63) (ap (λ fs. length fs) (sym c.iter-entries.ensures.rest)) c.iter-entries.ensures.fits in
    record { total = omega (arith, all); small = omega (arith, few) }

pub loop-numbers-preserved : goal.loop-numbers-preserved
loop-numbers-preserved g c = grind (arith, common_steps)
