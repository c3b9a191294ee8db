use Rattle.std.{proofs.Common.{◌≡◌, None, map, drop, [], ◌∷◌}, specs.Option.{option_or}}
use Rattle.nntp_wire.specs.Reason.{first}
use Rattle.nntp_article.specs.{Session.Misfit.{order_misfit, listed_misfit}, Inner.MisfitView.{why_if}}
use Rattle.nntp_article.proofs.session.visible.numbers.numbers_misfit.Given as goal

-- what is wrong with the numbers that are left, where the first that can't be listed is kept, is wrong with all
abbrev pub invariant-loop-number : goal.invariant-loop-number
invariant-loop-number l =
    first (order_misfit l.before (drop l.number-index l.numbers) ∷ option_or (why_if l.beyond) (first (map (listed_misfit l.limit l.range) (drop l.number-index l.numbers))) ∷ [])
    ≡ first (order_misfit None l.numbers ∷ first (map (listed_misfit l.limit l.range) l.numbers) ∷ [])
