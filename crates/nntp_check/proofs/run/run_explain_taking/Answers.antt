use Rattle.std.proofs.{Common.{ℕ, List, inr, subst, sym}, lemmas.Result.{IfOk-weaker, IfErr-weaker, err_from_is_err_and}}
use Rattle.nntp_check.{specs.{Capture.{Held}, Run.{read_by, ExplainReports, ExplainsHeld}}, proofs.RunLemmas.{unwritten-whole, whole-front, wrote-all}}
use Rattle.nntp_check.proofs.run.run_explain_taking.Goals as goal

pub returns-in_err-told-clause-err : goal.returns-in_err-told-clause-err
returns-in_err-told-clause-err g c =
    let exit = err_from_is_err_and c.from_residual-in_err-told.result c.from_residual-in_err-told.ensures.1 in
    let read = c.in_ok-is_several.ensures.ok tt c.new-streams.ensures in
    rw (exit.1, exit.2) (whole-front (read_by g.R.Read.remaining c.args.input.now c.read_capture.new.input c.args.most) _ read.1)

pub returns-clause-ok : goal.returns-clause-ok
returns-clause-ok g c =
    let read = c.in_ok-is_several.ensures.ok tt c.new-streams.ensures in
    let several = c.in_ok-is_several.is_several in
    let told = c.in_ok-told.told in
    IfOk-weaker c.print.result _ _
    (λ answer wrote. record {
      captured = record { held = read.0; is_several = several };
      capture = read.1;
      text = told.text.items;
      reports = subst (ExplainsHeld c.args.limit c.args.marks c.args.overviews several read.0 told.text.items) (sym wrote.0)
          (subst (λ (h : Held). ExplainsHeld c.args.limit c.args.marks c.args.overviews several h told.text.items told.is_without_fault) read.2 c.in_ok-told.ensures);
      whole = wrote-all (g.W.Write.contents c.args.output.now.inner) (g.W.Write.contents c.print.new.output.inner) told.text.items c.deref.result.now c.deref.ensures.value wrote.1;
    })
    c.print.ensures.ok

pub returns-clause-err : goal.returns-clause-err
returns-clause-err g c =
    let read = c.in_ok-is_several.ensures.ok tt c.new-streams.ensures in
    let several = c.in_ok-is_several.is_several in
    let told = c.in_ok-told.told in
    IfErr-weaker c.print.result _ _
    (λ fault why. unwritten-whole (ExplainReports c.args.limit c.args.marks c.args.overviews) (read_by g.R.Read.remaining c.args.input.now c.read_capture.new.input c.args.most)
    (g.W.Write.contents c.args.output.now.inner) (g.W.Write.contents c.print.new.output.inner)
    (record { held = read.0; is_several = several }) c.deref.result.now told.is_without_fault fault read.1
    (subst (λ (text : List ℕ). ExplainsHeld c.args.limit c.args.marks c.args.overviews several read.0 text told.is_without_fault) (sym c.deref.ensures.value)
    (subst (λ (h : Held). ExplainsHeld c.args.limit c.args.marks c.args.overviews several h told.text.items told.is_without_fault) read.2 c.in_ok-told.ensures))
    (inr why))
    c.print.ensures.err
