use Rattle.std.proofs.{Common.{ap, refl, inr, subst, List, ℕ, [], ◌++◌, ◌∙◌}, lemmas.Result.{err_from_is_err_and}}
use Rattle.nntp_store.specs.Writing.{Wrote}
use Rattle.nntp_wire.specs.Inner.Held.{held as names_in}
use Rattle.nntp_check.specs.{Report.{report_of}, Inner.Report.{text_behind}}
use Rattle.nntp_verdict.specs.Verdict.{sessions_verdict_shown}
use Rattle.nntp_check.proofs.run.report_verdict.Goals as goal

pub returns-in_err-print_report-clause-err : goal.returns-in_err-print_report-clause-err
returns-in_err-print_report-clause-err g c =
    let exit = err_from_is_err_and c.from_residual-in_err-print_report.result c.from_residual-in_err-print_report.ensures.1 in
    let verdict = sessions_verdict_shown c.args.judged.now.verdict in
    let whole = ap (λ t. t ++ text_behind verdict) c.deref-2.ensures.value ∙ c.in_ok-first.ensures ∙ ap (λ names. report_of c.args.is_several (names_in names) verdict) c.deref.ensures.value in
    let wrote = c.in_err-print_report.ensures.text in
    rw (exit.1, exit.2) (inr (
      refl,
      (
        wrote.0,
        subst (λ (text : List ℕ). Wrote (g.W.Write.contents c.args.output.now.inner)
            (g.W.Write.contents c.print_report.new.output.inner) text wrote.0) whole wrote.1,
      ),
    ))

pub returns-clause-ok : goal.returns-clause-ok
returns-clause-ok g c =
    let verdict = sessions_verdict_shown c.args.judged.now.verdict in
    let whole = ap (λ t. t ++ text_behind verdict) c.deref-2.ensures.value ∙ c.in_ok-first.ensures ∙ ap (λ names. report_of c.args.is_several (names_in names) verdict) c.deref.ensures.value in (
      c.is_consistent.ensures,
      subst (λ (text : List ℕ). Wrote (g.W.Write.contents c.args.output.now.inner)
          (g.W.Write.contents c.print_report.new.output.inner) text []) whole c.in_ok-print_report.ensures.text,
    )
