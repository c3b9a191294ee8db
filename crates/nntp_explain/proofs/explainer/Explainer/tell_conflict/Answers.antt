use Rattle.std.proofs.{Common.{arith, refl, inl, ◌∙◌, ◌++◌, ◌∷◌, [], ap, subst, sym}, lemmas.{Grind.{common_steps}, Result.{on_ok_weaker}}}
use Rattle.nntp_facts.specs.{Inner.Noted.{profile_kept}, Standing.{stands_of}}
use Rattle.nntp_theory.proofs.Members.{all_at, all_both, in_contains}
use Rattle.nntp_explain.{specs.Inner.{Explaining.{ToldContradiction}, ExplainingView.{AreReasons, TellsConflict, kept_of}}, proofs.SaidLines.{extended, surely}}
use Rattle.nntp_explain.proofs.ContradictionReasons.{told_again, told_short, told_whole}
use Rattle.nntp_explain.proofs.explainer.Explainer.tell_conflict.Goals as goal

pub returns-in-Some-clause-text : goal.returns-in-Some-clause-text
returns-in-Some-clause-text g c =
    let self = c.args.self.now in
    let bad = stands_of c.args.bad in
    let reason = c.in-Some.reason.now in
    let here : ToldContradiction = record { bad = bad; reason = reason } in
    let there = rw (c.in-Some.is, c.deref.ensures.value) at c.reason_of.ensures in
    let was = in_contains here self.contradictions.items there in
    let conflict = all_at (λ (t : ToldContradiction). TellsConflict (kept_of self) t.bad t.reason) here self.contradictions.items c.requires.reasons was in
    on_ok_weaker c.extend_from_slice.result (λ put facts refused. (reason, put, told_again (kept_of self) facts bad reason c.args.looked_for conflict (reason, there)))
    (extended c.extend_from_slice.result _ self.text.items reason c.extend_from_slice.ensures.items)

pub returns-clause-reasons : goal.returns-clause-reasons
returns-clause-reasons g c =
    let self = c.args.self.now in
    let goes = c.in_ok-put_found.ensures in
    let told = λ (t : ToldContradiction). TellsConflict (kept_of self) t.bad t.reason in
    let whole = goes.1 ∙ ap (λ t. t ++ goes.0) c.new-reason.ensures.items in
    let here = subst (TellsConflict (kept_of self) (stands_of c.args.bad)) (sym whole) goes.2 in
    subst (AreReasons (profile_kept self.facts) (kept_of self)) (sym c.in_ok-push.ensures.items)
    (all_both told self.contradictions.items (c.new.result ∷ []) c.requires.reasons (subst told (sym c.new.ensures) here, tt))

pub returns-then-branch-clause-text : goal.returns-then-branch-clause-text
returns-then-branch-clause-text g c =
    let self = c.args.self.now in
    let short = c.in_ok-is_cut_short.ensures.short c.if-branch.true in
    on_ok_weaker c.extend_from_slice-then-branch.result
    (λ put facts refused.
    let goes = c.in_ok-put_some.ensures facts refused short.1 in
    let whole = c.deref-then-branch.ensures.value ∙ goes.1 ∙ ap (λ t. t ++ goes.0) c.new-reason.ensures.items in
    (goes.0, put ∙ ap (λ t. self.text.items ++ t) whole, told_short (kept_of self) facts (stands_of c.args.bad) goes.0 c.args.looked_for short.0 goes.2))
    (extended c.extend_from_slice-then-branch.result _ self.text.items c.deref-then-branch.result.now c.extend_from_slice-then-branch.ensures.items)

pub returns-clause-text : goal.returns-clause-text
returns-clause-text g c facts refused =
    let self = c.args.self.now in
    let goes = c.in_ok-put_found.ensures in
    let whole = c.deref-2.ensures.value ∙ goes.1 ∙ ap (λ t. t ++ goes.0) c.new-reason.ensures.items in
    let told = told_whole (kept_of self) facts (stands_of c.args.bad) goes.0 c.args.looked_for (c.in_ok-is_cut_short.ensures.whole c.if-branch.false) goes.2 in
    (goes.0, c.in_ok-extend_from_slice.ensures.items ∙ ap (λ t. self.text.items ++ t) whole, told)

pub returns-then-branch-clause-kept : goal.returns-then-branch-clause-kept
returns-then-branch-clause-kept g c = surely c.extend_from_slice-then-branch.result refl

pub returns-then-branch-clause-reasons : goal.returns-then-branch-clause-reasons
returns-then-branch-clause-reasons g c = surely c.extend_from_slice-then-branch.result c.requires.reasons

pub returns-then-branch-clause-adds : goal.returns-then-branch-clause-adds
returns-then-branch-clause-adds g c = surely c.extend_from_slice-then-branch.result (inl refl)

pub returns-in-Some-clause-reasons : goal.returns-in-Some-clause-reasons
returns-in-Some-clause-reasons g c = surely c.extend_from_slice.result c.requires.reasons

pub returns-in-Some-clause-kept : goal.returns-in-Some-clause-kept
returns-in-Some-clause-kept g c = surely c.extend_from_slice.result refl

pub returns-in-Some-clause-adds : goal.returns-in-Some-clause-adds
returns-in-Some-clause-adds g c = surely c.extend_from_slice.result (inl refl)

pub returns-clause-adds : goal.returns-clause-adds
returns-clause-adds g c = grind (arith, common_steps)
