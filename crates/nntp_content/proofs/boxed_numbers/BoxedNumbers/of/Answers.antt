use Rattle.std.{proofs.{Common.{◌≡◌, ℕ, false, Option, None, Some, is_some, not, ap, sym, ◌∙◌}, lemmas.Bool.{true≢false}}, specs.Cmp.{nat_cmp_total}}
use Rattle.nntp_article.specs.{Inner.Spool.{IsFirst}, Session.Spool.{Numbers}}
use Rattle.std.specs.FinMap as map
use Rattle.nntp_content.proofs.boxed_numbers.BoxedNumbers.of.Goals as goal

-- numbers without a first one are none
without_first : (N : Numbers) (first : Option ℕ) → IsFirst N first → is_some first ≡ false → map.empty ≡ N
without_first N None is e = map.same_map nat_cmp_total map.nat_cmp-IsAntisymmetric map.empty N (λ q. map.get-empty _ q ∙ sym (is q))
without_first N (Some n) is e = absurd (true≢false e)

pub returns-then-is_none : goal.returns-then-is_none
returns-then-is_none g c = c.none.ensures ∙ without_first c.args.numbers c.least.result c.least.ensures (c.is_none.ensures ∙ ap not c.if-is_none.true)
