use Rattle.std.proofs.Common.{sym, ap, ◌∙◌, arith}
use Rattle.nntp_store.{specs.Text.{spool_text}, proofs.WholeSpools.{read_is_text, read_is_same, fault_is_no_text}}
use Rattle.nntp_store.proofs.value.spool.Spool.read_with.Goals as goal

pub new-requires : goal.new-requires
new-requires g c = (read_is_text c.args.octets.now (record { limit = c.in-Ok.limit; spool = c.in-Ok.content }) c.in-Ok.ensures).0

pub returns-in-Ok-clause-spool : goal.returns-in-Ok-clause-spool
returns-in-Ok-clause-spool g c = (read_is_text c.args.octets.now (record { limit = c.in-Ok.limit; spool = c.in-Ok.content }) c.in-Ok.ensures).1 ∙ ap spool_text (sym c.new.ensures)

pub returns-in-Err-Fault-clause-fault : goal.returns-in-Err-Fault-clause-fault
returns-in-Err-Fault-clause-fault g c = grind (arith, fault_is_no_text)

pub returns-in-Ok-clause-same : goal.returns-in-Ok-clause-same
returns-in-Ok-clause-same g c = λ L is same. c.new.ensures ∙ read_is_same c.args.octets.now (record { limit = c.in-Ok.limit; spool = c.in-Ok.content }) L (omega arith) c.in-Ok.ensures is same
