use Rattle.nntp_facts.proofs.Reading.NotedContradictions.{placed_next, accepted_fit, noted_conflicts}
use Rattle.nntp_facts.proofs.laws.reading.noted_contradiction_conflicts.Goals as goal

pub returns : goal.returns
returns c = record { next = placed_next; accepted = accepted_fit; contradiction = noted_conflicts }
