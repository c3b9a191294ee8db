use Rattle.std.proofs.{Common.{arith, ap}, lemmas.Result.{err_from_is_err_and}}
use Rattle.nntp_store.{specs.{Inner.ReadingView.{place_shown}, Reading.{number_at}}, proofs.RepeatedSteps.{begins, goes_on, is_done, ends}}
use Rattle.nntp_store.proofs.text.read.numbers_at.Goals as goal

pub returns-in_err-rest : goal.returns-in_err-rest
returns-in_err-rest g c = grind (arith, err_from_is_err_and, ends)

pub loop-preserved : goal.loop-preserved
loop-preserved g c = goes_on (number_at c.args.limit) c.args.count c.loop.counter _ _ _ c.loop-test.true c.in_ok-rest.ensures c.loop.invariant

pub loop-init : goal.loop-init
loop-init g c = begins (number_at c.args.limit) c.args.count _ _ (ap (λ N. (N, place_shown c.args.place)) c.new-numbers.ensures)

pub returns : goal.returns
returns g c = is_done (number_at c.args.limit) c.args.count c.loop.counter _ _ c.loop-test.false c.loop.invariant
