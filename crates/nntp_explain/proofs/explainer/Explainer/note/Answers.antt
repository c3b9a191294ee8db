use Rattle.std.{proofs.Common.{Result, arith}, specs.Prelude.{OnOk}}
use Rattle.nntp_theory.specs.declared.noted.Noted.TheVariants.{OutOfPlace, Contradiction}
use Rattle.nntp_explain.proofs.ToldAnswers.{if_both, told_due, others_accepted, unchanged, told_good, told_unfitting, told_contradiction, contradiction_due}
use Rattle.nntp_explain.proofs.explainer.Explainer.note.Goals as goal

-- what is so where there is no error
on_each : {T E P Q R S W : Type 0} (r : Result T E) → OnOk r P → OnOk r Q → OnOk r R → OnOk r S → (P → Q → R → S → W) → OnOk r W
on_each r p q r2 s f = grind arith

pub note-requires : goal.note-requires
note-requires g c = λ whole. told_due c.requires.told.5 c.requires.told.6

pub refuse_unfitting-requires : goal.refuse_unfitting-requires
refuse_unfitting-requires g c = record { few = c.requires.told.5.few; others = others_accepted c.requires.told.5 }

pub refuse_contradiction-requires : goal.refuse_contradiction-requires
refuse_contradiction-requires g c =
    let left = unchanged c.requires.told.5 c.requires.told.6 c.note.new.self Contradiction (λ past n. n.2) c.in-Contradiction.is c.in-Ok.ensures.noted in
    let due = contradiction_due left.0 c.requires.told.6 left.1 in
    record { few = c.requires.told.5.few; fit = due.0; conflict = due.1; reasons = due.2 }

pub returns-in-Consistent : goal.returns-in-Consistent
returns-in-Consistent g c =
    if_both c.accept.result c.accept.ensures.kept c.accept.ensures.text
    (λ _ kept text profile b client server left behind t next. told_good t next c.note.new.self c.in-Consistent.is c.in-Ok.ensures.noted kept text)

pub returns-in-OutOfPlace : goal.returns-in-OutOfPlace
returns-in-OutOfPlace g c =
    if_both c.refuse_unfitting.result c.refuse_unfitting.ensures.kept c.refuse_unfitting.ensures.text
    (λ _ kept text profile b client server left behind t next.
    let same = unchanged t next c.note.new.self OutOfPlace (λ past n. n.1) c.in-OutOfPlace.is c.in-Ok.ensures.noted in
    told_unfitting same.0 next same.1 kept text)

pub returns-in-Contradiction : goal.returns-in-Contradiction
returns-in-Contradiction g c =
    let refused = c.refuse_contradiction.ensures in
    on_each c.refuse_contradiction.result refused.kept refused.reasons refused.adds refused.text
    (λ kept reasons adds text profile b client server left behind t next.
    let same = unchanged t next c.note.new.self Contradiction (λ past n. n.2) c.in-Contradiction.is c.in-Ok.ensures.noted in
    told_contradiction same.0 next c.refuse_contradiction.new.self.contradictions.items same.1 kept reasons adds text)
