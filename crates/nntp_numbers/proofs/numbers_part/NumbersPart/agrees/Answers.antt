use Rattle.std.proofs.{Common.{sym, ◌∙◌}, lemmas.Bool.{true≢false}}
use Rattle.nntp_numbers.proofs.{GapsOfAPart.{part_agrees, agrees_open}, numbers_part.NumbersPart.agrees.Goals.{then-self, else-self}}
use Rattle.nntp_numbers.proofs.numbers_part.NumbersPart.agrees.Goals as goal

pub returns-then-denies_none : goal.returns-then-denies_none
returns-then-denies_none g c = λ regular. elim c.if-self.branch [
  | then-self w ↦ (
    λ t. part_agrees _ _ _ w.if-self.true ((w.denies_none.ensures regular).0 (sym w.value-is ∙ c.if-denies_none.true)) (sym c.shows_free.ensures ∙ t),
    λ a. c.shows_free.ensures ∙ agrees_open _ _ _ a,
  )
  | else-self w ↦ absurd (true≢false (sym c.if-denies_none.true ∙ w.value-is ∙ w.if-self.false))
]
