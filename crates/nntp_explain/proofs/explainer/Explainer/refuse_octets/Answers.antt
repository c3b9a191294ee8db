use Rattle.std.proofs.{Common.{arith, ◌∙◌, subst, ap, refl, ℕ, List, drop}, lemmas.{Grind.{common_steps}, Result.{on_ok_weaker}}}
use Rattle.std.specs.Option.{option_copied}
use Rattle.nntp_pair.specs.Classes.{class_of}
use Rattle.nntp_facts.specs.declared.placed.Placed.{Placed as Cited}
use Rattle.nntp_explain.{specs.{Explaining.{IsEndReason}, Inner.ExplainingView.{Kept, kept_of}}, proofs.SessionAnswers.{with_reason, without_reason}}
use Rattle.nntp_explain.proofs.explainer.Explainer.refuse_octets.Goals as goal

pub returns-then-branch-clause-text : goal.returns-then-branch-clause-text
returns-then-branch-clause-text g c =
    let self = c.args.self.now in
    let put = c.in_ok-put_bad.ensures in
    let own = c.split_at.ensures.back ∙ ap (drop c.put_bad.new.self.others) c.deref.ensures.value ∙ ap (λ (k : Kept). drop k.others k.accepted) put.kept in
    on_ok_weaker c.put_end_reason.result
    (λ reason.
    let is = subst (λ (q : ℕ × List Cited). IsEndReason q.0 c.args.class q.1 c.args.ahead.rest.now reason.0) (λ i. ((put.kept i).session, own i)) reason.2 in (
      c.first_line-initial.result.now,
      c.first_line-initial.ensures,
      with_reason (kept_of self) self.text.items c.args.index (class_of c.args.class) (option_copied c.args.ahead.line) c.first_line-initial.result.now
          (IsEndReason self.session c.args.class (drop self.others self.accepted.items) c.args.ahead.rest.now)
          put.told put.text refl c.from.ensures refl refl reason.0 c.if-branch.true reason.1 is,
    )) c.put_end_reason.ensures

pub returns-else-branch-clause-text : goal.returns-else-branch-clause-text
returns-else-branch-clause-text g c =
    let self = c.args.self.now in
    let put = c.in_ok-put_bad.ensures in (
      c.first_line-initial.result.now,
      c.first_line-initial.ensures,
      without_reason (kept_of self) self.text.items c.args.index (class_of c.args.class) (option_copied c.args.ahead.line) c.first_line-initial.result.now
          (IsEndReason self.session c.args.class (drop self.others self.accepted.items) c.args.ahead.rest.now)
          put.told put.text refl c.from.ensures refl refl c.if-branch.false,
    )

pub returns-then-branch-clause-kept : goal.returns-then-branch-clause-kept
returns-then-branch-clause-kept g c = grind (arith, common_steps)

pub split_at-requires : goal.split_at-requires
split_at-requires g c = grind (arith, common_steps)
