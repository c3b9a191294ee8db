use Rattle.nntp_facts.proofs.{Base.{arith, said_behind}, Keeping.NotedExchange.{stand_together}}
use Rattle.nntp_kept.proofs.Keeping.GroupReaders.{groups_shown}
use Rattle.nntp_facts.proofs.facts.Facts.take_groups.Goals as goal

pub returns-clause-groups : goal.returns-clause-groups
returns-clause-groups g c profile earlier past stands =
    grind (arith, groups_shown (said_behind profile.marks earlier past) c.args.self.now.kept.groups (stand_together profile c.args.self.now earlier past stands).numbers stands.kept.groups)
