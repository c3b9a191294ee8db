use Rattle.nntp_facts.proofs.Reading.NotedAsJudged.{consistent_accepted, unfit_refused, contradiction_refused}
use Rattle.nntp_facts.proofs.laws.sessions.noted_exchange_is_judged_behind_others.Goals as goal

pub returns : goal.returns
returns c = record { consistent = consistent_accepted; contradiction = contradiction_refused; out_of_place = unfit_refused }
