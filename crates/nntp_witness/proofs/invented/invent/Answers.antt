use Rattle.std.proofs.Common.{arith, ◌∙◌}
use Rattle.nntp_witness.proofs.InventedIds.{first_unmentioned, one_more_taken}
use Rattle.nntp_witness.proofs.invented.invent.Goals as goal

pub returns-then-not-mentions-clause-first : goal.returns-then-not-mentions-clause-first
returns-then-not-mentions-clause-first g c said noted =
    let tells = c.mentions.ensures.kept said noted in
    first_unmentioned said c.args.from c.loop-number.number c.as_bytes.result.now c.mentions.result
    (c.as_bytes.ensures.value ∙ c.as_str.ensures.value ∙ c.in_ok-id.ensures) tells c.if-not-mentions.true
    c.loop-number.invariant.from (c.loop-number.invariant.taken said noted)

pub loop-number-preserved : goal.loop-number-preserved
loop-number-preserved g c = record {
  from = let from = c.loop-number.invariant.from in omega arith;
  taken = λ said noted.
      let tells = c.mentions.ensures.kept said noted in
      one_more_taken said c.args.from c.loop-number.number c.as_bytes.result.now c.mentions.result
      (c.as_bytes.ensures.value ∙ c.as_str.ensures.value ∙ c.in_ok-id.ensures) tells c.if-not-mentions.false
      (c.loop-number.invariant.taken said noted);
}
