use Rattle.std.proofs.{Common.{rules, ◌≡◌, ◌++◌, ◌∙◌, [], ap, sym, subst, length, List, Some, refl}, lemmas.Result.{on_ok_weaker}}
use Rattle.nntp_wire.specs.declared.marks.Marks.{Marks}
use Rattle.nntp_theory.specs.Conflict.{Core, told}
use Rattle.nntp_facts.specs.{Inner.{Noted.{profile_kept}, Points.{AreHeld}, PointView.{point_of}}, declared.placed.Placed.{Placed}, Standing.{stands_of}}
use Rattle.nntp_explain.specs.Says.{conflict_lines}
use Rattle.nntp_explain.proofs.explainer.Explainer.put_some.Goals as goal

pub returns-in-Some : goal.returns-in-Some
returns-in-Some g c =
    let self = c.args.self.now in
    let bad = stands_of c.args.bad.now in
    let profile = profile_kept self.facts in
    let point = point_of c.in-Some.point in
    let count : c.len.result ≡ length self.accepted.items = search rules in
    let core = c.below-core.ensures ∙ ap (λ n. record { places = []; rest = Some n }) count in
    let lines = ap (λ (q : Marks × List Placed × Core). c.args.text.now.items ++ conflict_lines self.session q.0 point bad q.1 q.2) (λ i. (c.marks.ensures i, c.deref.ensures.value i, core i)) in
    on_ok_weaker c.put_conflict.result
    (λ put facts refused alone.
    let all = facts ++ told profile bad in
    let held = subst (AreHeld profile all) (sym c.in_ok-refusal.ensures.held) (refused c.in_ok-refusal.ensures.few) in
    let first = rw c.in-Some.is at (c.in_ok-point.ensures profile all held) in
    (_, put ∙ lines, (point, alone, first, refl))) c.put_conflict.ensures

pub returns : goal.returns
returns g c facts refused alone =
    let profile = profile_kept c.args.self.now.facts in
    let all = facts ++ told profile (stands_of c.args.bad.now) in
    let held = subst (AreHeld profile all) (sym c.in_ok-refusal.ensures.held) (refused c.in_ok-refusal.ensures.few) in
    absurd (rw c.in-None.is at (c.in_ok-point.ensures profile all held))
