use Rattle.std.proofs.{Common.{◌≡◌, ℕ, ◌++◌, take, drop, sym, subst, arith, length-append, length-take, length-drop}, lemmas.Result.{err_from_is_err_and}}
use Rattle.std.{proofs.KnownBytes.{Consumes-nil, Consumes-trans}, specs.Io.KnownBytes.{Consumes}}
use Rattle.nntp_check.{specs.declared.run_fault.RunFault.TheVariants.{Read}, proofs.{BegunLemmas.{begins-capture}, InputLemmas.{all-passed, ends-bad}}}
use Rattle.nntp_check.proofs.InputLemmas.{stops-bad, stops-unread, reads-more, read-fails, take-split, still-fresh, stays-same}
use Rattle.nntp_check.proofs.input.read_capture.Goals as goal

pub returns-in_err-finish-clause-err : goal.returns-in_err-finish-clause-err
returns-in_err-finish-clause-err g c =
    let exit = err_from_is_err_and c.from_residual.result c.from_residual.ensures.1 in
    let before = c.loop-count.invariant in
    let both = before.1.stands c.requires.0 c.requires.1 in
    rw (exit.1, exit.2)
    (ends-bad (g.R.Read.remaining c.args.input.now.inner) (g.R.Read.remaining c.loop-count.input.inner)
    (g.R.Read.remaining c.read.new.self.inner) c.args.most _ before.0 (take c.in-Ok.count c.read.new.buf)
    before.1.read c.in-Ok.ensures.bytes.0 (omega (arith, length-take c.in-Ok.count c.read.new.buf, c.if-count-eq0.true))
    (c.in-Ok.ensures.bytes.1 c.if-count-eq0.true (omega (arith, c.read.auto.buf))) before.1.few
    (c.in_err-finish.ensures.bad before.0 both.0 both.1))

pub returns-in_err-pass_on-clause-err : goal.returns-in_err-pass_on-clause-err
returns-in_err-pass_on-clause-err g c =
    let exit = err_from_is_err_and c.from_residual-in_err-pass_on.result c.from_residual-in_err-pass_on.ensures.1 in
    let before = c.loop-count.invariant in
    let got = take c.in-Ok.count c.read.new.buf in
    let fitting = take c.min-fitting.result c.read.new.buf in
    rw (exit.1, exit.2)
    (stops-bad (g.R.Read.remaining c.args.input.now.inner) (g.R.Read.remaining c.loop-count.input.inner)
    (g.R.Read.remaining c.read.new.self.inner) c.args.most before.0 got fitting (drop c.min-fitting.result got) _
    before.1.read c.in-Ok.ensures.bytes.0 (take-split c.min-fitting.result c.in-Ok.count c.read.new.buf (omega (arith, c.min-fitting.ensures)))
    (omega (arith, c.min-fitting.ensures, before.1.many, before.1.few, length-take c.min-fitting.result c.read.new.buf))
    (omega (arith, c.in-Ok.ensures.bound, length-take c.in-Ok.count c.read.new.buf, c.read.auto.buf))
    (begins-capture _ _ _ _ (before.1.stands c.requires.0 c.requires.1).1.come)
    (c.in_err-pass_on.ensures.err c.requires.0 before.0 (before.1.stands c.requires.0 c.requires.1)))

pub returns-in_err-pass_on-clause-failed : goal.returns-in_err-pass_on-clause-failed
returns-in_err-pass_on-clause-failed g c =
    let exit = err_from_is_err_and c.from_residual-in_err-pass_on.result c.from_residual-in_err-pass_on.ensures.1 in
    let before = c.loop-count.invariant in
    let fitting = take c.min-fitting.result c.read.new.buf in
    rw (exit.1, exit.2)
    (λ fresh. (
      λ bad. (let is : c.in_err-pass_on.field-0.0 ≡ Read = cc in absurd
          (stops-unread before.0 fitting _ (c.in_err-pass_on.ensures.err c.requires.0 before.0
          (before.1.stands c.requires.0 c.requires.1)) is)),
      λ failed. absurd (still-fresh _ _ _ c.in-Ok.ensures.failed before.1.same fresh failed),
    ))

pub returns-then-fitting-count-clause-err : goal.returns-then-fitting-count-clause-err
returns-then-fitting-count-clause-err g c =
    let before = c.loop-count.invariant in
    let got = take c.in-Ok.count c.read.new.buf in
    let fitting = take c.min-fitting.result c.read.new.buf in
    let by = c.requires.0 in
    let both = all-passed c.loop-count.reader c.pass_on.new.reader (g.S.Sink.stands by c.loop-count.sink)
    (g.S.Sink.stands by c.pass_on.new.sink) before.0 fitting (c.in_ok-pass_on.ensures.ok by)
    (before.1.stands by c.requires.1) in
    reads-more (g.R.Read.remaining c.args.input.now.inner) (g.R.Read.remaining c.loop-count.input.inner)
    (g.R.Read.remaining c.read.new.self.inner) c.args.most before.0 got fitting (drop c.min-fitting.result got)
    before.1.read c.in-Ok.ensures.bytes.0 (take-split c.min-fitting.result c.in-Ok.count c.read.new.buf (omega (arith, c.min-fitting.ensures)))
    (omega (arith, c.min-fitting.ensures, c.if-fitting-count.true, c.in-Ok.ensures.bound, before.1.many, before.1.few, length-take c.min-fitting.result c.read.new.buf))
    (omega (arith, c.if-fitting-count.true, c.in-Ok.ensures.bound, length-drop c.min-fitting.result got, length-take c.in-Ok.count c.read.new.buf))
    (omega (arith, c.in-Ok.ensures.bound, length-take c.in-Ok.count c.read.new.buf, c.read.auto.buf))
    (begins-capture _ _ _ _ both.1.come)

pub loop-count-init : goal.loop-count-init
loop-count-init g c = search (arith, Consumes-nil)

pub loop-count-preserved : goal.loop-count-preserved
loop-count-preserved g c =
    let before = c.loop-count.invariant in
    let fitting = take c.min-fitting.result c.read.new.buf in
    let all : c.min-fitting.result ≡ c.in-Ok.count = omega (arith, c.min-fitting.ensures, c.if-fitting-count.false) in (
      before.0 ++ fitting,
      record {
        read = subst (λ (n : ℕ). Consumes (g.R.Read.remaining c.args.input.now.inner) (g.R.Read.remaining c.read.new.self.inner) (before.0 ++ take n c.read.new.buf)) (sym all)
            (Consumes-trans _ _ _ _ _ before.1.read c.in-Ok.ensures.bytes.0);
        many = omega (arith, before.1.many, length-append before.0 fitting, length-take c.min-fitting.result c.read.new.buf, c.in-Ok.ensures.bound);
        few = omega (arith, before.1.many, before.1.few, length-append before.0 fitting, length-take c.min-fitting.result c.read.new.buf, c.min-fitting.ensures);
        stands = λ by start. all-passed c.loop-count.reader c.pass_on.new.reader (g.S.Sink.stands by c.loop-count.sink)
            (g.S.Sink.stands by c.pass_on.new.sink) before.0 fitting (c.in_ok-pass_on.ensures.ok by) (before.1.stands by start);
        same = stays-same _ _ _ c.in-Ok.ensures.failed before.1.same;
      },
    )

pub returns-in_default-clause-err : goal.returns-in_default-clause-err
returns-in_default-clause-err g c =
    let before = c.loop-count.invariant in
    read-fails (g.R.Read.remaining c.args.input.now.inner) (g.R.Read.remaining c.loop-count.input.inner)
    (g.R.Read.remaining c.read.new.self.inner) c.args.most before.0 before.1.read c.in_default.ensures.bytes before.1.few
    (begins-capture _ _ _ _ (before.1.stands c.requires.0 c.requires.1).1.come)
