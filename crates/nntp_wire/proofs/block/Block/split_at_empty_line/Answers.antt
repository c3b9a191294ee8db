use Rattle.std.proofs.{Common.{◌∙◌, ◌≡◌, ap, arith, length, subst, sym}, lemmas.{Bool.Decides.{Decides-eqb}, Slice.Eq.{slice_eq-Decides}}}
use Rattle.nntp_wire.{specs.{Inner.Block.{HasNoEmptyLine}, Octets.{crlf}}, proofs.EmptyLineLemmas.{IsSplit, nonempty-start, nonempty-more, nonempty-end}}
use Rattle.nntp_wire.proofs.EmptyLineLemmas.{next-is, next-fits, split-empty}
use Rattle.nntp_wire.proofs.block.Block.split_at_empty_line.Goals as goal

pub loop-line-init : goal.loop-line-init
loop-line-init c = grind (arith, nonempty-start)

pub split_at-requires : goal.split_at-requires
split_at-requires c =
    let next = next-is c.self.inside.sent.now c.in-Some.line.now c.loop-line.line-iterator c.next.new.self c.loop-line.length c.loop-line.invariant c.in-Some.ensures.steps in
    omega (arith, next-fits _ _ _ _ next)

pub split_at-requires-then-eq : goal.split_at-requires-then-eq
split_at-requires-then-eq c =
    let next = next-is c.self.inside.sent.now c.in-Some.line.now c.loop-line.line-iterator c.next.new.self c.loop-line.length c.loop-line.invariant c.in-Some.ensures.steps in
    let is : c.in-Some.line.now ≡ crlf = (slice_eq-Decides Decides-eqb c.in-Some.line.now c.as_slice.result.now c.eq.result c.eq.ensures).0 c.if-eq.true ∙ c.as_slice.ensures in
    omega (arith, next-fits _ _ _ _ next, ap length is, c.split_at.ensures.back_len)

split : (c : goal.After-back-1) → IsSplit c.self.inside.sent.now c.split_at.result.0.now c.split_at-then-eq.result.1.now
split c =
    let next = next-is c.self.inside.sent.now c.in-Some.line.now c.loop-line.line-iterator c.next.new.self c.loop-line.length c.loop-line.invariant c.in-Some.ensures.steps in
    let is : c.in-Some.line.now ≡ crlf = (slice_eq-Decides Decides-eqb c.in-Some.line.now c.as_slice.result.now c.eq.result c.eq.ensures).0 c.if-eq.true ∙ c.as_slice.ensures in
    split-empty _ _ _ c.split_at.result.1.now _ _ _ next is c.split_at.ensures.front c.split_at.ensures.back c.split_at-then-eq.ensures.back

pub invariant_of-result : goal.invariant_of-result
invariant_of-result c = (split c).front_sends

pub invariant_of-result-then-eq : goal.invariant_of-result-then-eq
invariant_of-result-then-eq c = (split c).back_sends

pub returns-then-eq : goal.returns-then-eq
returns-then-eq c = ((split c).none, sym c.self.view_is ∙ (split c).whole)

pub overflow_add-length : goal.overflow_add-length
overflow_add-length c =
    let next = next-is c.self.inside.sent.now c.in-Some.line.now c.loop-line.line-iterator c.next.new.self c.loop-line.length c.loop-line.invariant c.in-Some.ensures.steps in
    omega (arith, next-fits _ _ _ _ next, c.self.told.0)

pub loop-line-preserved : goal.loop-line-preserved
loop-line-preserved c = grind (arith, nonempty-more, next-is)

pub returns : goal.returns
returns c = subst HasNoEmptyLine c.self.view_is (nonempty-end c.self.inside.sent.now c.loop-line.line-iterator c.loop-line.length c.loop-line.invariant c.in-None.ensures.steps.0)
