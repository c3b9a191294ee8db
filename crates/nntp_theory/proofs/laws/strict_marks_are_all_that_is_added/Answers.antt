use Rattle.std.{proofs.Common.{subst}, specs.List.{AllByRecursion}}
use Rattle.nntp_theory.{specs.Given.{facts_of_session}, proofs.Session.NumbersOfShownGroups.{Placed, session_placed}}
use Rattle.nntp_theory.proofs.GivenNumbers.GivenNumbersMeet.{none_more}
use Rattle.nntp_theory.proofs.laws.strict_marks_are_all_that_is_added.Goals as goal

pub returns : goal.returns
returns c = λ profile ps answers name n strict fits x.
    let facts = facts_of_session profile.marks ps answers in
    none_more facts (subst (λ how. AllByRecursion (Placed how facts) facts) strict (session_placed profile ps answers fits)) name n x
