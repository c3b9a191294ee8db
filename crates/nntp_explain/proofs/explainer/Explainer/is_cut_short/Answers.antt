use Rattle.std.proofs.Common.{rules, true, false, ◌≡◌, ◌∙◌, inr, is_some, subst, List}
use Rattle.nntp_article.specs.declared.session.profile.Profile.{Profile}
use Rattle.nntp_theory.specs.Conflict.{Placed, SomeHas, told}
use Rattle.nntp_facts.specs.Standing.{stands_of}
use Rattle.nntp_explain.proofs.ContradictionReasons.{among, searched, alone_by}
use Rattle.nntp_explain.proofs.explainer.Explainer.is_cut_short.Goals as goal

pub find-requires : goal.find-requires
find-requires g c =
    let d = searched (stands_of c.args.bad.now) c.limit-limit.ensures c.marks-marks.ensures c.deref.ensures.value c.requires.fit c.requires.conflict in
    record { fit = d.0; conflict = d.1 }

pub returns : goal.returns
returns g c =
    let bad = stands_of c.args.bad.now in
    let core = c.in_ok-core in
    let rest : is_some core.core.rest ≡ c.is_some.result = search rules in
    let alone = subst (λ (q : Profile × List Placed). (is_some core.core.rest ≡ true → SomeHas q.0 (told q.0 bad)) × (is_some core.core.rest ≡ false → SomeHas q.0 (told q.0 bad) → ⊥))
    (among c.limit-limit.ensures c.marks-marks.ensures c.deref.ensures.value) (alone_by _ bad _ core.core core.ensures.found core.ensures.most) in
    record { short = λ short. (c.if-looked_for.false, alone.0 (rest ∙ short)); whole = λ whole. inr (alone.1 (rest ∙ whole)) }
