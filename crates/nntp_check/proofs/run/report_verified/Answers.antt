use Rattle.std.proofs.{Common.{◌∙◌, ◌++◌, List, ℕ, [], ap, inr, length, subst, sym}, lemmas.Result.{IfOk-weaker, IfErr-weaker}}
use Rattle.nntp_several.specs.{Sessions.{Named}, Inner.VerifyingView.{verified_shown}}
use Rattle.nntp_store.specs.Writing.{Wrote}
use Rattle.nntp_check.specs.{Inner.Report.{IsVerifiedWithin}, Report.{names_of, verified_report}}
use Rattle.nntp_check.proofs.run.report_verified.Goals as goal

pub put_verified-requires : goal.put_verified-requires
put_verified-requires g c =
    subst (λ (sessions : List Named). IsVerifiedWithin (length sessions) (verified_shown c.args.verified.now)) (sym (c.deref.ensures.value ∙ c.in_ok-sessions.ensures)) c.requires

pub returns-clause-ok : goal.returns-clause-ok
returns-clause-ok g c =
    let verified = verified_shown c.args.verified.now in
    let text_is = c.deref-2.ensures.value ∙ c.in_ok-put_verified.ensures
    ∙ ap (λ (before : List ℕ). before ++ verified_report c.args.is_several (names_of c.deref.result.now) verified) c.new-text.ensures.items
    ∙ ap (λ (sessions : List Named). verified_report c.args.is_several (names_of sessions) verified) (c.deref.ensures.value ∙ c.in_ok-sessions.ensures) in
    IfOk-weaker c.print.result _ _
    (λ answer told. (
      told.0 ∙ c.is_permitted.ensures,
      subst (λ (text : List ℕ). Wrote (g.W.Write.contents c.args.output.now.inner) (g.W.Write.contents c.print.new.output.inner) text []) text_is told.1,
    ))
    c.print.ensures.ok

pub returns-clause-err : goal.returns-clause-err
returns-clause-err g c =
    let verified = verified_shown c.args.verified.now in
    let text_is = c.deref-2.ensures.value ∙ c.in_ok-put_verified.ensures
    ∙ ap (λ (before : List ℕ). before ++ verified_report c.args.is_several (names_of c.deref.result.now) verified) c.new-text.ensures.items
    ∙ ap (λ (sessions : List Named). verified_report c.args.is_several (names_of sessions) verified) (c.deref.ensures.value ∙ c.in_ok-sessions.ensures) in
    IfErr-weaker c.print.result _ _
    (λ fault why. inr (
      why.0,
      (
        why.1.0,
        subst (λ (text : List ℕ). Wrote (g.W.Write.contents c.args.output.now.inner) (g.W.Write.contents c.print.new.output.inner) text why.1.0) text_is why.1.1,
      ),
    ))
    c.print.ensures.err
