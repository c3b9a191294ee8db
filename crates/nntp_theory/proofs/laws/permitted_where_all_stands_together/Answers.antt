use Rattle.nntp_theory.proofs.{Given.{GivenPermits.{stands, given_permits}, SessionsByFacts.{given_exists}}, Together.FactsOfASpoolStand.{stand}}
use Rattle.nntp_theory.proofs.laws.permitted_where_all_stands_together.Goals as goal

pub returns : goal.returns
returns c = record {
  of_spool = stand;
  only_if = λ profile ps answers h. stands profile h.0 ps answers h.1 h.2;
  exactly_if = λ profile ps answers small. (
    λ h. stands profile h.0 ps answers h.1 h.2,
    λ h. (let p = given_permits profile _ ps answers h.0 h.1 small (given_exists profile ps answers h.0 small) in (_, p.0, p.1)),
  );
  given_exists = λ profile ps answers fits small. (_, given_exists profile ps answers fits small);
  given_permits = given_permits;
}
