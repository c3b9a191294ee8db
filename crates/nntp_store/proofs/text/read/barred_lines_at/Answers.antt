use Rattle.std.proofs.{Common.{arith}, lemmas.Result.{err_from_is_err_and}}
use Rattle.nntp_store.{specs.Reading.{barred_line_at}, proofs.RepeatedSteps.{goes_on, ends}}
use Rattle.nntp_store.proofs.text.read.barred_lines_at.Goals as goal

pub returns-in_err-rest : goal.returns-in_err-rest
returns-in_err-rest g c = grind (arith, err_from_is_err_and, ends)

pub loop-preserved : goal.loop-preserved
loop-preserved g c = goes_on barred_line_at c.args.count c.loop.counter _ _ _ c.loop-test.true c.in_ok-rest.ensures c.loop.invariant
