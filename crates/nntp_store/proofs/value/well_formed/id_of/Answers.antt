use Rattle.std.proofs.Common.{arith}
use Rattle.nntp_wire.proofs.ValuesByTests.{some-test}
use Rattle.nntp_store.proofs.value.well_formed.id_of.Goals as goal

pub returns-in-None : goal.returns-in-None
returns-in-None c = grind (arith, some-test)
