use Rattle.std.proofs.lemmas.Result.{err_from_is_err_and}
use Rattle.nntp_check.proofs.PassLemmas.{passed-none, passed-more, left-room, stops-behind}
use Rattle.nntp_check.proofs.input.pass_on.Goals as goal

pub pass_front-requires-clause-room : goal.pass_front-requires-clause-room
pass_front-requires-clause-room g c =
    let by = c.requires.room.0 in
    let room = c.requires.room.1 in (
      by,
      left-room c.args.reader.now c.loop-rest.reader (g.S.Sink.stands by c.args.sink.now)
          (g.S.Sink.stands by c.loop-rest.sink) c.args.octets.now c.loop-rest.rest.now room.0
          (c.loop-rest.invariant by) room.1 room.2,
    )

pub returns-in_err-rest-clause-err : goal.returns-in_err-rest-clause-err
returns-in_err-rest-clause-err g c =
    let exit = err_from_is_err_and c.from_residual.result c.from_residual.ensures.1 in
    rw (exit.1, exit.2)
    (λ by came both.
    let passed = c.loop-rest.invariant by in
    stops-behind came c.args.octets.now passed.front c.loop-rest.rest.now _ passed.cut (c.in_err-rest.ensures.err by _ (passed.stands came both)))

pub loop-rest-init : goal.loop-rest-init
loop-rest-init g c by = passed-none c.args.reader.now (g.S.Sink.stands by c.args.sink.now) c.args.octets.now

pub loop-rest-preserved : goal.loop-rest-preserved
loop-rest-preserved g c by =
    passed-more c.args.reader.now c.loop-rest.reader c.pass_front.new.reader (g.S.Sink.stands by c.args.sink.now) (g.S.Sink.stands by c.loop-rest.sink) (g.S.Sink.stands by c.pass_front.new.sink)
    c.args.octets.now c.loop-rest.rest.now _ (c.loop-rest.invariant by) (c.in_ok-rest.ensures.ok.0 by)
