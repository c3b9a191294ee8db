use Rattle.nntp_theory.proofs.{GivenNumbers.JoinedDemands.{demand_append}, Together.FactsJoin.{together_more, answer_agrees}}
use Rattle.nntp_theory.proofs.Given.SessionsGoOn.{permitted_more}
use Rattle.nntp_theory.proofs.laws.next_answer_is_permitted_where_it_joins.Goals as goal

pub returns : goal.returns
returns c = record { demand = demand_append; facts = together_more; within = answer_agrees; answer = permitted_more }
