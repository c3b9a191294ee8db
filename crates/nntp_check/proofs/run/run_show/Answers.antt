use Rattle.std.proofs.{Common.{refl, inr, subst, sym}, lemmas.Result.{IfOk-weaker, IfErr-weaker, err_from_is_err_and}}
use Rattle.nntp_check.{specs.{Capture.{Captured}, Run.{read_by, ShowReports}}, proofs.{HoldingLemmas.{capture-alone}, RunLemmas.{unwritten-whole, whole-front}}}
use Rattle.nntp_check.proofs.RunLemmas.{wrote-all}
use Rattle.nntp_check.proofs.run.run_show.Goals as goal

pub finish-requires : goal.finish-requires
finish-requires g c = let read = c.in_ok-is_several.ensures.ok tt c.new-printer.ensures in (read.0, read.2)

pub returns-in_err-shown-clause-err : goal.returns-in_err-shown-clause-err
returns-in_err-shown-clause-err g c =
    let exit = err_from_is_err_and c.from_residual-in_err-shown.result c.from_residual-in_err-shown.ensures.1 in
    let read = c.in_ok-is_several.ensures.ok tt c.new-printer.ensures in
    rw (exit.1, exit.2) (whole-front (read_by g.R.Read.remaining c.args.input.now c.read_capture.new.input c.args.most) _ read.1)

pub returns-clause-ok : goal.returns-clause-ok
returns-clause-ok g c =
    let read = c.in_ok-is_several.ensures.ok tt c.new-printer.ensures in
    let captured : Captured = record { held = read.0; is_several = c.in_ok-is_several.is_several } in
    let text = c.in_ok-shown.shown.text.now in
    let reports = c.in_ok-shown.ensures captured refl (capture-alone read.1.octets captured read.1.capture) read.2 in
    IfOk-weaker c.print.result _ _
    (λ answer told. record {
      captured = captured;
      capture = read.1;
      text = text;
      reports = subst (ShowReports captured text) (sym told.0) reports;
      whole = wrote-all (g.W.Write.contents c.args.output.now.inner) (g.W.Write.contents c.print.new.output.inner) text text refl told.1;
    })
    c.print.ensures.ok

pub returns-clause-err : goal.returns-clause-err
returns-clause-err g c =
    let read = c.in_ok-is_several.ensures.ok tt c.new-printer.ensures in
    let captured : Captured = record { held = read.0; is_several = c.in_ok-is_several.is_several } in
    let shown = c.in_ok-shown.shown in
    let reports = c.in_ok-shown.ensures captured refl (capture-alone read.1.octets captured read.1.capture) read.2 in
    IfErr-weaker c.print.result _ _
    (λ fault why. unwritten-whole ShowReports (read_by g.R.Read.remaining c.args.input.now c.read_capture.new.input c.args.most)
    (g.W.Write.contents c.args.output.now.inner) (g.W.Write.contents c.print.new.output.inner)
    captured shown.text.now shown.is_answered fault read.1 reports (inr why))
    c.print.ensures.err
