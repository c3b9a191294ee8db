use Rattle.nntp_facts.proofs.{Base.{one_more_in_session, accepted_one_more, index_in_session}, Reading.NotedAsJudged.{due_in_session}}
use Rattle.nntp_facts.proofs.laws.reading.next_answer_is_judged.Goals as goal

pub returns : goal.returns
returns c = record { answers = one_more_in_session; accepted = accepted_one_more; index = index_in_session; due = due_in_session }
