use Rattle.std.proofs.{Common.{arith, sym, ◌∙◌}, lemmas.Bool.{true≢false}}
use Rattle.nntp_numbers.proofs.{GapsOfAPart.{agrees_open}, MoreAsks.{joins_then, joins_else}, UnseenNumbers.{first_free}}
use Rattle.nntp_numbers.{proofs.numbers.Numbers.joins.Goals.{then-agrees, else-agrees}, specs.Inner.{PartView.{said}, Summary.{denied_after}}}
use Rattle.nntp_numbers.proofs.numbers.Numbers.joins.Goals as goal

pub returns-then-leaves : goal.returns-then-leaves
returns-then-leaves g c = λ asks more sum stand bounded says.
    let p = said c.args.part.now in
    elim c.if-agrees.branch [
      | then-agrees w ↦
          let agree = (c.agrees.ensures says.regular).0 w.if-agrees.true in
          let free = first_free (denied_after c.self.inside.denied p) in
          joins_then c.args.self.now _ p c.is_settled.result _ _ c.self.view_is c.join-demand.ensures c.ends_after-ends.ensures _ _ _ _
          (c.is_settled.ensures says.regular (agrees_open c.self.inside.shown c.self.inside.denied p agree) _ free) agree
          (w.leaves.ensures.0 (sym w.value-is ∙ c.if-leaves.true)) (c.of.ensures.tally says.regular.ascends) free c.least.ensures
          asks more sum stand bounded says
      | else-agrees w ↦ absurd (true≢false (sym c.if-leaves.true ∙ w.value-is ∙ w.if-agrees.false))
    ]

pub returns-else-leaves : goal.returns-else-leaves
returns-else-leaves g c = λ asks more sum stand bounded says.
    joins_else c.args.self.now _ (said c.args.part.now) c.if-agrees.value _ _ c.self.view_is c.join-demand.ensures c.ends_after-ends.ensures c.if-leaves.false
    (λ agree opened. grind (arith, c.if-agrees.branch, true≢false, c.agrees.ensures says.regular))
    asks more sum stand bounded says
