use Rattle.std.proofs.{Common.{arith, ◌≡◌, ◌∙◌, ◌++◌, ap, refl, List, [], Option, drop}, lemmas.{Grind.{common_steps}, Result.{on_ok_weaker}}}
use Rattle.std.specs.Option.{option_map_or}
use Rattle.nntp_wire.specs.Answer.{Response}
use Rattle.nntp_article.specs.Session.Misfit.{Misfit}
use Rattle.nntp_pair.specs.declared.class.Class.TheVariants.{OutOfPlace}
use Rattle.nntp_facts.specs.declared.placed.Placed.{Placed as Cited}
use Rattle.nntp_explain.{specs.{Inner.ExplainingView.{Kept, kept_of, unfitting_told}, Reasons.{unfitting_lines}}, proofs.SessionAnswers.{with_reason}}
use Rattle.nntp_explain.proofs.SessionAnswers.{without_reason}
use Rattle.nntp_explain.proofs.explainer.Explainer.refuse_unfitting.Goals as goal

pub returns-in_ok-reason-clause-text : goal.returns-in_ok-reason-clause-text
returns-in_ok-reason-clause-text g c =
    let pair = c.args.exchange.now in
    let put = c.in_ok-put_bad.ensures in
    let reason = λ (k : Kept). unfitting_told k pair in
    let own = c.split_at.ensures.back ∙ ap (drop c.put_bad.new.self.others) c.deref.ensures.value in
    let told : _ ≡ reason (kept_of c.put_bad.new.self) =
    ap (λ (q : List Cited × Response × Option Misfit). option_map_or (unfitting_lines c.put_bad.new.self.session q.0 q.1) q.2 [])
    (λ i. (own i, c.answer.ensures.value i, c.in_ok-reason.ensures i)) in
    on_ok_weaker c.put_unfitting.result
    (λ is. with_reason (kept_of c.args.self.now) c.args.self.now.text.items pair.index OutOfPlace pair.place.line pair.initial (λ r. r ≡ reason (kept_of c.args.self.now))
    put.told put.text c.index.ensures.value refl c.line-line.ensures c.initial.ensures (reason (kept_of c.put_bad.new.self)) c.if-branch.true
    (is ∙ ap (λ r. c.put_bad.new.self.text.items ++ r) told) (ap reason put.kept)) c.put_unfitting.ensures

pub returns-else-branch-clause-text : goal.returns-else-branch-clause-text
returns-else-branch-clause-text g c =
    let pair = c.args.exchange.now in
    let put = c.in_ok-put_bad.ensures in
    without_reason (kept_of c.args.self.now) c.args.self.now.text.items pair.index OutOfPlace pair.place.line pair.initial (λ r. r ≡ unfitting_told (kept_of c.args.self.now) pair)
    put.told put.text c.index.ensures.value refl c.line-line.ensures c.initial.ensures c.if-branch.false

pub split_at-requires : goal.split_at-requires
split_at-requires g c = grind (arith, common_steps)
