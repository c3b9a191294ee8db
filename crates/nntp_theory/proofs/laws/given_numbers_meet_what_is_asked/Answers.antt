use Rattle.nntp_article.specs.Session.Spool.{numbers}
use Rattle.nntp_theory.{specs.Given.{asks_of}, proofs.GivenNumbers.{MetNumbersStand.{asks_stand}, GivenNumbersMeet.{given_meet}}}
use Rattle.nntp_theory.proofs.Together.FactsOfASpoolStand.{met_by_facts}
use Rattle.nntp_theory.proofs.laws.given_numbers_meet_what_is_asked.Goals as goal

pub returns : goal.returns
returns c = λ limit S facts name G spool holds given.
    given_meet (asks_of name facts) G (asks_stand (asks_of name facts) (numbers S name) (met_by_facts S name facts holds) (λ n i. (spool.numbers_in_limit name n i).0)) given
