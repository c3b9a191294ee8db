use Rattle.std.proofs.{Common.{arith, sym, ◌∙◌}, lemmas.Bool.{true≢false}}
use Rattle.nntp_spool.proofs.VerifiedPairs.{one_more_answer, not_permitted, answers_nothing, all_permitted}
use Rattle.nntp_spool.proofs.verification.judge.Goals as goal

pub returns-then-not-branch : goal.returns-then-not-branch
returns-then-not-branch g c =
    let l = c.loop-exchange in
    not_permitted _ _ c.requires.spool _ _ _ _ _ l.invariant.0 c.next.new.self c.in-Exchange.exchange c.in-Exchange.ensures.step
    (λ m. true≢false (sym (c.in_ok-may_answer-in-Exchange.ensures.may.1 (rw l.invariant.2 m)) ∙ c.if-not-branch.true))

pub loop-exchange-preserved : goal.loop-exchange-preserved
loop-exchange-preserved g c = grind (arith, one_more_answer)

pub returns-in-Bad : goal.returns-in-Bad
returns-in-Bad g c = answers_nothing _ _ c.requires.spool _ _ _ _ _ c.loop-exchange.invariant.0 c.in-Bad.class c.in-Bad.ensures.step.1

pub returns-in-End : goal.returns-in-End
returns-in-End g c = all_permitted _ _ c.requires.spool _ _ _ _ _ c.loop-exchange.invariant.0 c.in-End.ensures.step.0.0
