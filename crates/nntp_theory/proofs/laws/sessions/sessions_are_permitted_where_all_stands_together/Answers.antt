use Rattle.nntp_theory.proofs.Given.SessionsByFacts.{permitted_together_of_all, some_or_none_of_all, made_for_all, given_exists_of_all, given_permits_all}
use Rattle.nntp_theory.proofs.Given.SessionsByFacts.{least_of_all}
use Rattle.nntp_theory.proofs.laws.sessions.sessions_are_permitted_where_all_stands_together.Goals as goal

pub returns : goal.returns
returns c = record {
  exactly_if = permitted_together_of_all;
  decided = some_or_none_of_all;
  given_exists = λ profile sessions f small. (made_for_all profile sessions, given_exists_of_all profile sessions f small);
  given_permits = given_permits_all;
  given_is_least = least_of_all;
}
