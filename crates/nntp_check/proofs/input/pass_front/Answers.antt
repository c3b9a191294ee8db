use Rattle.std.proofs.lemmas.Result.{err_from_is_err_and}
use Rattle.nntp_check.proofs.PassLemmas.{passed-on, has-room}
use Rattle.nntp_check.proofs.input.pass_front.Goals as goal

pub take-requires : goal.take-requires
take-requires g c = search

pub pass-requires : goal.pass-requires
pass-requires g c =
    let by = c.requires.room.0 in
    let room = c.requires.room.1 in
    let taken = c.in_ok-taken.taken in
    (by, has-room c.args.reader.now (g.S.Sink.stands by c.args.sink.now) room.0 c.args.octets.now taken.octets.now taken.rest.now room.1 room.2 c.in_ok-taken.ensures.cut.0)

pub returns-in_err-taken-clause-err : goal.returns-in_err-taken-clause-err
returns-in_err-taken-clause-err g c =
    let exit = err_from_is_err_and c.from_residual.result c.from_residual.ensures.1 in
    rw (exit.1, exit.2) (λ by came both. c.in_err-taken.ensures.bad came both.0 both.1)

pub returns-clause-ok : goal.returns-clause-ok
returns-clause-ok g c =
    let taken = c.in_ok-taken.taken in (
      λ by. passed-on c.args.reader.now c.take.new.self (g.S.Sink.stands by c.args.sink.now) (g.S.Sink.stands by c.pass.new.sink) taken.passage c.args.octets.now taken.octets.now taken.rest.now
          c.in_ok-taken.ensures.cut.0 c.in_ok-taken.ensures.read (c.in_ok-pass.ensures.ok by),
      c.in_ok-taken.ensures.cut.1,
    )
