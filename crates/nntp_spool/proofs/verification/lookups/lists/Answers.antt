use Rattle.std.proofs.{Common.{◌∙◌, sym, arith}, lemmas.{Bool.{true≢false}, List.{drop_more, drop_all}}}
use Rattle.nntp_spool.proofs.ListedNumbers.{taken, is_next, lists_from_range}
use Rattle.nntp_spool.proofs.verification.lookups.lists.Goals as goal

pub loop-number-init : goal.loop-number-init
loop-number-init g c = record { same = lists_from_range c.args.numbers.now c.args.range c.args.listed.now c.checked_sub-before.result c.checked_sub-before.ensures; ascends = c.requires }

pub returns-then-not-is_next_within : goal.returns-then-not-is_next_within
returns-then-not-is_next_within g c =
    let l = c.loop-number in
    let next = is_next c.args.numbers.now c.args.range l.before _ _ _ (drop_more c.args.listed.now l.number-index 0 c.loop-number-test.true) l.invariant.ascends _ l.invariant.same in
    (λ t. absurd (true≢false (sym t)), λ h. absurd (true≢false (sym (c.is_next_within.ensures.1 (next h)) ∙ c.if-not-is_next_within.true)))

pub loop-number-preserved : goal.loop-number-preserved
loop-number-preserved g c =
    let l = c.loop-number in
    let more = taken c.args.numbers.now c.args.range l.before _ _ _ (drop_more c.args.listed.now l.number-index 0 c.loop-number-test.true) l.invariant.ascends _ l.invariant.same
    (c.is_next_within.ensures.0 c.if-not-is_next_within.false) in
    record { same = more.0; ascends = more.1 }

pub returns : goal.returns
returns g c =
    let l = c.loop-number in
    let none = drop_all l.number-index c.args.listed.now (omega (arith, c.loop-number-test.false)) in
    let same = rw none at l.invariant.same in
    (λ t. same.0 (c.has_none_within.ensures.0 t), λ h. c.has_none_within.ensures.1 (same.1 h))
