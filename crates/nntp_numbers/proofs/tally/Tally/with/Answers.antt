use Rattle.std.proofs.Common.{◌∙◌, sym}
use Rattle.nntp_numbers.proofs.{Tallies.{tally_there, tally_wanted, tally_unwanted}, tally.Tally.with.Goals.{then-wants, else-wants}}
use Rattle.nntp_numbers.proofs.tally.Tally.with.Goals as goal

pub returns-then-is_there-clause-tally : goal.returns-then-is_there-clause-tally
returns-then-is_there-clause-tally c = λ p there t.
    tally_there p c.args.n c.args.demand c.args.self.found c.args.self.count (sym there ∙ c.if-is_there.true) t

pub returns-clause-tally : goal.returns-clause-tally
returns-clause-tally c = λ p there t.
    let none = sym there ∙ c.if-is_there.false in
    elim c.if-wants.branch [
      | then-wants w ↦ rw (w.result-is ∙ w.and_one.ensures) (tally_wanted p c.args.n c.args.demand _ _ none (sym c.wants.ensures ∙ w.if-wants.true) t)
      | else-wants w ↦ rw w.result-is (tally_unwanted p c.args.n c.args.demand _ _ none (sym c.wants.ensures ∙ w.if-wants.false) t)
    ]
