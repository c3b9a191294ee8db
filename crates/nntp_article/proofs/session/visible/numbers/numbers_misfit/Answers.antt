use Rattle.std.proofs.Common.{◌≡◌, ℕ, ◌<◌, ◌+◌, List, [], ◌∷◌, length, map, drop, drop-cons, get_or, add-one, Option, None, Some, sym, ap, ◌∙◌, arith, rules}
use Rattle.std.{proofs.lemmas.Grind.{common_steps}, specs.Option.{option_or}}
use Rattle.nntp_wire.specs.{Reason.{first}, declared.range.Range.{Range}}
use Rattle.nntp_article.specs.{Session.Misfit.{Misfit, step_misfit, order_misfit, listed_misfit}, Inner.MisfitView.{why_if}}
use Rattle.nntp_article.proofs.SessionLemmas.Misfits.{why_or}
use Rattle.nntp_article.proofs.session.visible.numbers.numbers_misfit.Goals as goal

-- a reason beyond the range is kept where there is none of the order
moved : (order beyond here : Option Misfit) (more : List (Option Misfit)) → first (order ∷ option_or (option_or beyond here) (first more) ∷ [])
    ≡ first (first (None ∷ order ∷ []) ∷ option_or beyond (first (here ∷ more)) ∷ [])
moved order beyond here more = search rules

-- a number that is in order is left behind
next_number : (limit : ℕ) (range : Range) (ns : List ℕ) (i : ℕ) (before : Option ℕ) (beyond new all : Option Misfit) → i < length ns
    → None ≡ step_misfit before (get_or ns i 0) → new ≡ option_or beyond (listed_misfit limit range (get_or ns i 0))
    → first (order_misfit before (drop i ns) ∷ option_or beyond (first (map (listed_misfit limit range) (drop i ns))) ∷ []) ≡ all
    → first (order_misfit (Some (get_or ns i 0)) (drop (i + 1) ns) ∷ option_or new (first (map (listed_misfit limit range) (drop (i + 1) ns))) ∷ []) ≡ all
next_number limit range ns i before beyond new all within fits put known = grind (arith, common_steps, add-one, drop-cons, moved)

pub loop-number-preserved : goal.loop-number-preserved
loop-number-preserved c =
    let beyond = c.loop-number.beyond in
    next_number c.args.limit c.args.range c.args.numbers.now c.loop-number.number-index c.loop-number.before (why_if beyond) (why_if c.or-beyond.result) _ c.loop-number-test.true
    (ap why_if (sym c.in_default.is) ∙ c.step_misfit.ensures)
    (ap why_if c.or-beyond.ensures ∙ why_or beyond c.listed_misfit.result ∙ ap (option_or (why_if beyond)) c.listed_misfit.ensures) c.loop-number.invariant
