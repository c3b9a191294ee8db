use Rattle.std.proofs.{Common.{arith}, lemmas.Result.{err_from_is_err_and}}
use Rattle.nntp_store.proofs.NumberFaults.{misplaced}
use Rattle.nntp_store.proofs.value.builder.SpoolBuilder.number_sharing.Goals as goal

pub returns-in_err-name : goal.returns-in_err-name
returns-in_err-name g c = grind (arith, err_from_is_err_and, misplaced)
