use Rattle.std.proofs.{Common.{arith}, Math.Bool.{and-true}, lemmas.Bool.Decides.{nat_tests}}
use Rattle.nntp_wire.proofs.{WordLemmas.{clean_by_search}, OctetLemmas.{octets-fit}}
use Rattle.nntp_store.proofs.value.well_formed.is_line.Goals as goal

pub returns : goal.returns
returns c = grind (arith, clean_by_search, nat_tests, and-true, octets-fit)
