use Rattle.std.{proofs.{Common.{refl, sym, subst, ◌∙◌}, lemmas.Bool.{true≢false}}, specs.List.{AllByRecursion}}
use Rattle.nntp_article.specs.Session.Machine.{HasOverview}
use Rattle.nntp_spool.proofs.verification.listed_overviews.have_overviews.Goals as goal

pub returns-then-not-has_overview : goal.returns-then-not-has_overview
returns-then-not-has_overview g c =
    let all = rw c.in-Some.ensures.steps at c.loop-overview.invariant.2.1 in
    (λ t. absurd (true≢false (sym t)), λ h. absurd (true≢false (sym (c.has_overview.ensures.1 (all h).0) ∙ c.if-not-has_overview.true)))

pub returns : goal.returns
returns g c = (λ _. c.loop-overview.invariant.2.0 (subst (AllByRecursion (HasOverview c.args.spool.now)) (sym c.in-None.ensures.steps.0) tt), λ _. refl)
