use Rattle.std.proofs.{Common.{subst, refl}, lemmas.Result.{IfOk-weaker, IfErr-weaker, err_from_is_err_and}}
use Rattle.nntp_article.specs.Session.Limit.{profile_of}
use Rattle.nntp_several.specs.Inner.VerifyingView.{verified_shown}
use Rattle.nntp_check.specs.{Capture.{Held, sessions_of}, Inner.Collecting.{IsUnverified, held_in}, Report.{names_of, verified_report, is_permitted}}
use Rattle.nntp_check.{specs.Run.{read_by, written_by}, proofs.RunLemmas.{unverified, unwritten-verified, verified-within, verify-reports, wrote-all}}
use Rattle.nntp_check.proofs.run.run_verify_taking.Goals as goal

pub returns-in_err-verified-clause-err : goal.returns-in_err-verified-clause-err
returns-in_err-verified-clause-err g c =
    let exit = err_from_is_err_and c.from_residual-in_err-verified.result c.from_residual-in_err-verified.ensures.1 in
    let read = c.in_ok-is_several.ensures.ok tt c.new-streams.ensures in
    rw (exit.1, exit.2)
    (unverified c.args.marks c.args.overviews (read_by g.R.Read.remaining c.args.input.now c.read_capture.new.input c.args.most)
    (written_by g.W.Write.contents c.args.output.now c.args.output.now) (record { held = read.0; is_several = c.in_ok-is_several.is_several })
    c.in_err-verified.field-0.0 read.1 (subst (λ (h : Held). IsUnverified h c.in_err-verified.field-0.0) read.2 c.in_err-verified.ensures.err))

pub report_verified-requires : goal.report_verified-requires
report_verified-requires g c =
    let verifies = c.in_ok-verified.ensures.ok in
    verified-within (profile_of verifies.value.limit c.args.marks) verifies.value.spool (sessions_of c.args.overviews (held_in c.read_capture.new.sink))
    (verified_shown c.in_ok-verified.verified) verifies.exact

pub returns-clause-ok : goal.returns-clause-ok
returns-clause-ok g c =
    let read = c.in_ok-is_several.ensures.ok tt c.new-streams.ensures in
    let several = c.in_ok-is_several.is_several in
    let verified = verified_shown c.in_ok-verified.verified in
    let text = verified_report several (names_of (sessions_of c.args.overviews (held_in c.read_capture.new.sink))) verified in
    IfOk-weaker c.report_verified.result _ _
    (λ answer told. record {
      captured = record { held = read.0; is_several = several };
      capture = read.1;
      text = text;
      reports = verify-reports c.args.marks c.args.overviews (held_in c.read_capture.new.sink) read.0 several verified answer c.in_ok-verified.ensures.ok read.2 told.0;
      whole = wrote-all (g.W.Write.contents c.args.output.now.inner) (g.W.Write.contents c.report_verified.new.output.inner) text text refl told.1;
    })
    c.report_verified.ensures.ok

pub returns-clause-err : goal.returns-clause-err
returns-clause-err g c =
    let read = c.in_ok-is_several.ensures.ok tt c.new-streams.ensures in
    let several = c.in_ok-is_several.is_several in
    let verified = verified_shown c.in_ok-verified.verified in
    let text = verified_report several (names_of (sessions_of c.args.overviews (held_in c.read_capture.new.sink))) verified in
    IfErr-weaker c.report_verified.result _ _
    (λ fault why. unwritten-verified c.args.marks c.args.overviews (read_by g.R.Read.remaining c.args.input.now c.read_capture.new.input c.args.most)
    (g.W.Write.contents c.args.output.now.inner) (g.W.Write.contents c.report_verified.new.output.inner) (record { held = read.0; is_several = several })
    text (is_permitted verified) fault read.1
    (verify-reports c.args.marks c.args.overviews (held_in c.read_capture.new.sink) read.0 several verified (is_permitted verified) c.in_ok-verified.ensures.ok read.2 refl) why)
    c.report_verified.ensures.err
