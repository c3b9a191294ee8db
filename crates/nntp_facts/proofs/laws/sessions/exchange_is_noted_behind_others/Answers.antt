use Rattle.nntp_facts.proofs.Keeping.NotedExchange.{stand_together, shows_selected, noted_consistent, noted_contradiction}
use Rattle.nntp_facts.proofs.laws.sessions.exchange_is_noted_behind_others.Goals as goal

pub returns : goal.returns
returns c = search (stand_together, shows_selected, noted_consistent, noted_contradiction)
