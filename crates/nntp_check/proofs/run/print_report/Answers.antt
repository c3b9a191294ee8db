use Rattle.std.proofs.{Common.{[]}, lemmas.Result.{err_from_is_err_and}}
use Rattle.nntp_verdict.specs.Verdict.{sessions_verdict_shown}
use Rattle.nntp_store.proofs.Written.{Wrote-first, Wrote-last}
use Rattle.nntp_check.{specs.Inner.Report.{text_behind}, proofs.RunLemmas.{Writes-kept}}
use Rattle.nntp_check.proofs.run.print_report.Goals as goal

pub returns-in_err-put-clause-text : goal.returns-in_err-put-clause-text
returns-in_err-put-clause-text g c =
    let p = err_from_is_err_and c.from_residual.result c.from_residual.ensures.1 in
    let w = c.in_err-put.ensures.text in
    rw p.1 (_, Wrote-first _ _ [] c.args.first.now (text_behind (sessions_verdict_shown c.args.verdict.now)) w.0 w.1)

pub returns-in_err-put_text_behind-clause-text : goal.returns-in_err-put_text_behind-clause-text
returns-in_err-put_text_behind-clause-text g c =
    let r = c.from_residual-in_err-put_text_behind in
    let p = err_from_is_err_and r.result r.ensures.1 in
    let w = c.in_err-put_text_behind.ensures.text in
    let first = Wrote-first _ _ [] c.args.first.now (text_behind (sessions_verdict_shown c.args.verdict.now)) [] c.in_ok-put.ensures.text in
    rw p.1 (_, Wrote-last _ _ _ _ _ w.0 first w.1)

pub returns-clause-text : goal.returns-clause-text
returns-clause-text g c =
    let first = Wrote-first _ _ [] c.args.first.now (text_behind (sessions_verdict_shown c.args.verdict.now)) [] c.in_ok-put.ensures.text in
    Writes-kept c.flush.result _ _ _ _ (Wrote-last _ _ _ _ _ [] first c.in_ok-put_text_behind.ensures.text) c.flush.ensures.text
