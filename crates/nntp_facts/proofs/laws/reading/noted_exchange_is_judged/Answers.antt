use Rattle.nntp_facts.proofs.Reading.NotedAsJudged.{consistent_accepted, unfit_refused, contradiction_refused}
use Rattle.nntp_facts.proofs.laws.reading.noted_exchange_is_judged.Goals as goal

pub returns : goal.returns
returns c = search (consistent_accepted, unfit_refused, contradiction_refused)
