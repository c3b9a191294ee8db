use Rattle.nntp_theory.proofs.GivenNumbers.CountOfGivenNumbers.{more_meets, known_meet, none_more, one_more_given, one_more_counted, as_many_given}
use Rattle.nntp_theory.proofs.laws.given_numbers_are_counted.Goals as goal

pub returns : goal.returns
returns c = search (more_meets, known_meet, none_more, one_more_given, one_more_counted, as_many_given)
