use Rattle.std.proofs.{Common.{◌∙◌, ap, refl, subst, sym, length}, lemmas.{Result.{IfOk-weaker, IfErr-weaker, err_from_is_err_and}, List.{length-map}}}
use Rattle.nntp_check.specs.{Capture.{sessions_of}, Inner.{Collecting.{judged_report}, Report.{IsWithin}}, Report.{report_of}, Run.{read_by, written_by}}
use Rattle.nntp_check.{specs.Run.{CheckReports}, proofs.RunLemmas.{wrote-all, unwritten-whole, unfinished-front, verdict-within, whole-front}}
use Rattle.nntp_verdict.specs.Verdict.{sessions_verdict_shown, is_consistent_of_all}
use Rattle.nntp_check.proofs.run.run_check_taking.Goals as goal

pub read_capture-requires : goal.read_capture-requires
read_capture-requires g c = ((c.args.limit, c.args.marks, c.args.overviews), c.new-checker.ensures)

pub finish-requires : goal.finish-requires
finish-requires g c =
    let read = c.in_ok-is_several.ensures.ok (c.args.limit, c.args.marks, c.args.overviews) c.new-checker.ensures in
    (c.args.limit, c.args.marks, c.args.overviews, read.0, read.2)

pub report_verdict-requires : goal.report_verdict-requires
report_verdict-requires g c =
    let read = c.in_ok-is_several.ensures.ok (c.args.limit, c.args.marks, c.args.overviews) c.new-checker.ensures in
    let told = c.in_ok-judged.ensures.ok c.args.limit c.args.marks c.args.overviews read.0 read.2 in
    let judgement = sessions_verdict_shown c.in_ok-judged.judged.verdict in
    subst (λ n. IsWithin n judgement) (sym (ap length told.1)
    ∙ length-map c.in_ok-judged.judged.names.items (λ n. n.items)) (verdict-within c.args.limit c.args.marks (sessions_of c.args.overviews read.0) judgement told.0)

pub returns-clause-ok : goal.returns-clause-ok
returns-clause-ok g c =
    let read = c.in_ok-is_several.ensures.ok (c.args.limit, c.args.marks, c.args.overviews) c.new-checker.ensures in
    let told = c.in_ok-judged.ensures.ok c.args.limit c.args.marks c.args.overviews read.0 read.2 in
    let judged = c.in_ok-judged.judged in
    let several = c.in_ok-is_several.is_several in
    let judgement = sessions_verdict_shown judged.verdict in
    IfOk-weaker c.report_verdict.result _ _
    (λ answer wrote. record {
      captured = record { held = read.0; is_several = several };
      capture = read.1;
      text = judged_report several judged;
      reports = record {
        judgement = judgement;
        verdict = told.0;
        text_is = ap (λ names. report_of several names judgement) told.1;
        answer_is = wrote.0;
      };
      whole = wrote-all (g.W.Write.contents c.args.output.now.inner)
          (g.W.Write.contents c.report_verdict.new.output.inner) (judged_report several judged) (judged_report several judged) refl wrote.1;
    })
    c.report_verdict.ensures.ok

pub returns-clause-err : goal.returns-clause-err
returns-clause-err g c =
    let read = c.in_ok-is_several.ensures.ok (c.args.limit, c.args.marks, c.args.overviews) c.new-checker.ensures in
    let told = c.in_ok-judged.ensures.ok c.args.limit c.args.marks c.args.overviews read.0 read.2 in
    let judged = c.in_ok-judged.judged in
    let several = c.in_ok-is_several.is_several in
    let judgement = sessions_verdict_shown judged.verdict in
    IfErr-weaker c.report_verdict.result _ _
    (λ fault why. unwritten-whole (CheckReports c.args.limit c.args.marks c.args.overviews) (read_by g.R.Read.remaining c.args.input.now c.read_capture.new.input c.args.most)
    (g.W.Write.contents c.args.output.now.inner) (g.W.Write.contents c.report_verdict.new.output.inner)
    (record { held = read.0; is_several = several }) (judged_report several judged) (is_consistent_of_all judgement) fault read.1
    (record {
      judgement = judgement;
      verdict = told.0;
      text_is = ap (λ names. report_of several names judgement) told.1;
      answer_is = refl;
    })
    why)
    c.report_verdict.ensures.err

pub returns-in_err-judged-clause-err : goal.returns-in_err-judged-clause-err
returns-in_err-judged-clause-err g c =
    let exit = err_from_is_err_and c.from_residual-in_err-judged.result c.from_residual-in_err-judged.ensures.1 in
    let read = c.in_ok-is_several.ensures.ok (c.args.limit, c.args.marks, c.args.overviews) c.new-checker.ensures in
    let input = (read_by g.R.Read.remaining c.args.input.now c.read_capture.new.input c.args.most) in
    rw (exit.1, exit.2)
    (unfinished-front (CheckReports c.args.limit c.args.marks c.args.overviews) input (written_by g.W.Write.contents c.args.output.now c.args.output.now)
    c.in_err-judged.field-0.0 c.in_err-judged.ensures.err (whole-front input _ read.1))
