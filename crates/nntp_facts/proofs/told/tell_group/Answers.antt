use Rattle.nntp_facts.proofs.Base.{arith}
use Rattle.nntp_kept.proofs.Keeping.FactsSaid.{none_added}
use Rattle.nntp_facts.proofs.told.tell_group.Goals as goal

pub returns-in-None : goal.returns-in-None
returns-in-None g c profile facts more limit kept together tells = grind (arith, none_added facts c.args.kept.now kept together)
