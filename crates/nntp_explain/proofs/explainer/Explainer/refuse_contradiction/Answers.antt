use Rattle.std.proofs.{Common.{arith, rules, ◌≡◌, ◌∙◌, sym, ap, subst, refl, Bool, length, List}, lemmas.{Grind.{common_steps}, Result.{on_ok_weaker}}}
use Rattle.nntp_theory.specs.Conflict.{Placed}
use Rattle.nntp_pair.specs.declared.class.Class.TheVariants.{Contradiction}
use Rattle.nntp_facts.specs.{Inner.Noted.{profile_kept}, Standing.{stands_of}}
use Rattle.nntp_explain.specs.{Explaining.{are_looked_for}, Inner.{Explaining.{ToldContradiction}, ExplainingView.{AddsReason, Kept, AreReasons, Contradicts}}}
use Rattle.nntp_explain.specs.Inner.ExplainingView.{Fits, IsRefused, TellsNext, TellsContradiction, refuses, kept_of, placed_here}
use Rattle.nntp_explain.proofs.{SessionAnswers.{with_reason, without_reason}, explainer.Explainer.refuse_contradiction.Goals.{After-copy}}
use Rattle.nntp_explain.proofs.explainer.Explainer.refuse_contradiction.Given as given
use Rattle.nntp_explain.proofs.explainer.Explainer.refuse_contradiction.Goals as goal

-- where the answer stands
abbrev bad : (g : given.Over) → After-copy g → Placed
bad g c = stands_of (record { session = c.put_bad.new.self.session; standing = c.copy.result; exchange = c.args.exchange })

-- what is kept is as before the answer was told, and so is where the answer stands
before : (g : given.Over) (c : After-copy g)
    → ◌≡◌ {A = Kept × Placed} (kept_of c.put_bad.new.self, bad g c) (refuses (kept_of c.args.self.now), placed_here (kept_of c.args.self.now) c.args.exchange)
before g c = grind arith

-- so are the contradictions
same_told : (old new : Kept) → new ≡ refuses old → new.contradictions ≡ old.contradictions
same_told old new kept = ap (λ (k : Kept). k.contradictions) kept

pub returns-then-not-branch-clause-text : goal.returns-then-not-branch-clause-text
returns-then-not-branch-clause-text g c facts refused =
    let kept = kept_of c.args.self.now in
    let pair = c.args.exchange in
    let put = c.in_ok-put_bad.ensures in
    without_reason kept c.args.self.now.text.items pair.index Contradiction pair.place.line pair.initial (TellsNext kept facts (placed_here kept pair))
    put.told put.text c.index.ensures.value refl c.line-line.ensures c.initial.ensures c.if-not-branch.true

pub tell_conflict-requires : goal.tell_conflict-requires
tell_conflict-requires g c =
    let same = sym (before g (goal.at.tell_conflict-requires g c).After-copy) in
    record {
      fit = subst (λ (q : Kept × Placed). Fits q.0 q.1) same c.requires.fit;
      conflict = subst (λ (q : Kept × Placed). Contradicts q.0 q.1) same c.requires.conflict;
      reasons = subst (λ (k : Kept). AreReasons (profile_kept k.facts) k k.contradictions) (sym c.in_ok-put_bad.ensures.kept) c.requires.reasons;
    }

pub returns-clause-reasons : goal.returns-clause-reasons
returns-clause-reasons g c =
    on_ok_weaker c.tell_conflict.result
    (subst (λ (k : Kept). AreReasons (profile_kept k.facts) k c.tell_conflict.new.self.contradictions.items) c.in_ok-put_bad.ensures.kept) c.tell_conflict.ensures.reasons

pub returns-clause-adds : goal.returns-clause-adds
returns-clause-adds g c =
    let told = same_told (kept_of c.args.self.now) (kept_of c.put_bad.new.self) c.in_ok-put_bad.ensures.kept in
    on_ok_weaker c.tell_conflict.result (subst (λ (q : Placed × List ToldContradiction). AddsReason q.0 q.1 c.tell_conflict.new.self.contradictions.items)
    (λ i. ((before g (goal.at.returns-clause-adds g c).After-copy i).1, told i))) c.tell_conflict.ensures.adds

pub returns-clause-text : goal.returns-clause-text
returns-clause-text g c =
    let kept = kept_of c.args.self.now in
    let pair = c.args.exchange in
    let there = placed_here kept pair in
    let put = c.in_ok-put_bad.ensures in
    let same = before g (goal.at.returns-clause-text g c).After-copy in
    let count : c.len.result ≡ length c.args.self.now.accepted.items = search rules in
    let looked_for = c.are_looked_for-looked_for.ensures ∙ ap (are_looked_for c.args.self.now.bad) count in
    on_ok_weaker c.tell_conflict.result (λ tells facts refused.
    let goes = tells facts (subst (λ (q : Kept × Placed). IsRefused q.0 facts q.1) (sym same) refused) in
    with_reason kept c.args.self.now.text.items pair.index Contradiction pair.place.line pair.initial (TellsNext kept facts there)
    put.told put.text c.index.ensures.value refl c.line-line.ensures c.initial.ensures goes.0 c.if-not-branch.false goes.1
    (subst (λ (q : Bool × Kept × Placed). TellsContradiction q.0 q.1 facts q.2 goes.0) (λ i. (looked_for i, (same i).0, (same i).1)) goes.2)) c.tell_conflict.ensures.text

pub returns-then-not-branch-clause-kept : goal.returns-then-not-branch-clause-kept
returns-then-not-branch-clause-kept g c = grind (arith, common_steps)

pub returns-clause-kept : goal.returns-clause-kept
returns-clause-kept g c = grind (arith, common_steps)

pub returns-then-not-branch-clause-adds : goal.returns-then-not-branch-clause-adds
returns-then-not-branch-clause-adds g c = grind (arith, common_steps)

pub returns-then-not-branch-clause-reasons : goal.returns-then-not-branch-clause-reasons
returns-then-not-branch-clause-reasons g c = grind (arith, common_steps)
