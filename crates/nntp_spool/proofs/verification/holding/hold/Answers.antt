use Rattle.std.proofs.{Common.{arith, refl, sym, subst, ◌∙◌}, lemmas.Bool.{true≢false}}
use Rattle.nntp_article.specs.{Inner.Listed.{lists}, Session.Spool.{Spool}}
use Rattle.nntp_said.specs.Facts.{Holds}
use Rattle.nntp_spool.{specs.Inner.{AskedCounts.{AreCounted}, Sessions.{SaysThese}}, proofs.AnswersInFacts.{none_left, first_passed, first_held, first_is}}
use Rattle.nntp_spool.proofs.verification.holding.hold.Goals as goal

pub holds-requires : goal.holds-requires
holds-requires g c =
    let is = c.loop-fact.invariant in
    record { names = rw is.2 c.requires.names; listed = first_is (SaysThese (lists c.args.listed.now)) _ _ c.in-Some.ensures is.0.these; counted = rw is.2 is.1 }

pub loop-fact-preserved : goal.loop-fact-preserved
loop-fact-preserved g c = grind (arith, first_passed, first_held)

pub returns-then-not-branch : goal.returns-then-not-branch
returns-then-not-branch g c =
    let is = c.loop-fact.invariant in
    record {
      spool = c.in_ok-holds.ensures.spool ∙ is.2;
      counted = subst (λ (S : Spool). AreCounted S c.holds.new.counts) is.2 c.in_ok-holds.ensures.counted;
      hold = (λ t. absurd (true≢false (sym t)), λ h. sym c.if-not-branch.true ∙ c.in_ok-holds.ensures.holds.1 (rw is.2 (first_is (Holds c.args.group.now) _ _ c.in-Some.ensures (is.0.same.1 h))));
    }

pub returns-clause-hold : goal.returns-clause-hold
returns-clause-hold g c =
    let none = none_left c.args.group.now (lists c.args.listed.now) c.args.facts.now c.loop-fact.facts in
    (λ _. none c.loop-fact.invariant.0 c.in_default.ensures, λ _. refl)
