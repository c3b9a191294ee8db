use Rattle.std.{proofs.{Common.{◌∷◌, subst, List, map}, lemmas.Result.{on_ok_weaker}}, specs.List.{AllByRecursion}}
use Rattle.nntp_article.specs.declared.session.profile.Profile.{Profile}
use Rattle.nntp_theory.specs.{Conflict.{Placed, IsFound, told_with, places_of}, Inner.Conflict.{FitsThere, HasLast}}
use Rattle.nntp_facts.specs.{Inner.{Noted.{profile_kept}, Points.{AreHeld}, StatementView.{held_of}}, Standing.{stands_of}}
use Rattle.nntp_explain.{specs.{Explaining.{TellsCore}, Inner.ExplainingView.{GoesOn}}, proofs.ContradictionReasons.{among, searched, some_found}}
use Rattle.nntp_explain.proofs.explainer.Explainer.put_found.Goals as goal

pub find-requires : goal.find-requires
find-requires g c =
    let d = searched (stands_of c.args.bad.now) c.limit-limit.ensures c.marks-marks.ensures c.deref.ensures.value c.requires.fit c.requires.conflict in
    record { fit = d.0; conflict = d.1 }

pub returns : goal.returns
returns g c =
    let self = c.args.self.now in
    let bad = stands_of c.args.bad.now in
    let core = c.in_ok-core.core in
    let held = held_of c.in_ok-conflict.conflict in
    let profile = profile_kept self.facts in
    let found = subst (λ (q : Profile × List Placed). IsFound q.0 bad q.1 core) (among c.limit-limit.ensures c.marks-marks.ensures c.deref.ensures.value) c.in_ok-core.ensures.found in
    let all = subst (λ (q : Profile × List Placed). AllByRecursion (FitsThere q.0) (bad ∷ q.1) → IsFound q.0 bad q.1 core → HasLast core
    → AreHeld q.0 (told_with q.0 bad q.1 (places_of core)) held)
    (among c.limit-limit.ensures c.marks-marks.ensures c.deref-2.ensures.value) c.in_ok-conflict.ensures c.requires.fit found (some_found core c.in_ok-core.ensures.most) in
    on_ok_weaker c.put_point_of.result
    (λ told.
    let goes = subst (λ answers. AreHeld profile (told_with profile bad (map stands_of answers) (places_of core)) held
    → GoesOn (TellsCore self.session profile bad answers core) c.args.text.now.items c.put_point_of.new.text.items)
    c.deref-3.ensures.value (told profile c.marks-marks.ensures) all in
    (goes.0, goes.1, (core, found, c.in_ok-core.ensures.most, goes.2)))
    c.put_point_of.ensures
