-- The given spool of facts that fit, are placed and stand together has them, and is the least, whether or not they are of one session.
use Rattle.std.{proofs.Common.{◌<◌, ◌^◌, List, length, arith}, specs.List.{AllByRecursion}}
use Rattle.nntp_wire.specs.declared.marks.Marks.{Marks}
use Rattle.nntp_article.specs.{Session.Spool.{Spool, IsSpool, numbers, Name}, declared.session.profile.Profile.{Profile}}
use Rattle.nntp_said.specs.{Asks.{Meets}, Facts.{Fact, Holds}}
use Rattle.nntp_theory.specs.{Given.{IsGiven, unshown_ids, asks_of, HasAtLeast}, Inner.{Given.{size}, Together.{Together}}}
use Rattle.nntp_theory.proofs.Session.{FittingFacts.{IsFitting}, NumbersOfShownGroups.{Placed}, NumbersWithinLimit.{free_in_limit}}
use Rattle.nntp_theory.proofs.Ids.{SmallGivenSpool.{few_enough, unshown_ids_few}, InventedIds.{number-invented, invented_is_id}}
use Rattle.nntp_theory.proofs.Together.FactsOfASpoolStand.{group_in_S, id_in_S, head_in_S, fields_in_S, body_in_S, met_by_facts}
use Rattle.nntp_theory.proofs.Given.{ConstructedSpool.{made, made_group, made_given, made_is_given}, GivenHolds.{Setting, all_hold}}
use Rattle.nntp_theory.proofs.{Given.GivenIsSpool.{given_is_spool}, GivenNumbers.MetNumbersStand.{shown_are_numbers, as_few}}

-- a spool is given for facts that fit and are placed
pub given_of_facts : (profile : Profile) (how : Marks) (facts : List Fact) → AllByRecursion (IsFitting profile) facts → AllByRecursion (Placed how facts) facts
    → size facts < 2 ^ 210 → IsGiven facts (made profile.limit (10 ^ 64) facts)
given_of_facts profile how facts fitting placed small =
    let G = made profile.limit (10 ^ 64) facts in
    let within = free_in_limit profile facts how fitting placed in
    let group = made_group profile.limit (10 ^ 64) facts in
    made_is_given profile.limit (10 ^ 64) facts number-invented (λ name shown e x. within name shown e x.first.1)
    (few_enough facts (length (unshown_ids facts G)) small
    (unshown_ids_few facts G (λ name. (group name).0) (λ name i. made_given profile.limit (10 ^ 64) facts name (λ e x. within name ((group name).0 i) e x.first.1) i)))

-- where they stand together, the given spool is a spool and has them
pub given_has : (profile : Profile) (how : Marks) (G : Spool) (facts : List Fact) → AllByRecursion (IsFitting profile) facts → AllByRecursion (Placed how facts) facts
    → Together facts → size facts < 2 ^ 210 → IsGiven facts G → IsSpool profile.limit G × AllByRecursion (Holds G) facts
given_has profile how G facts fitting placed together small given =
    let few = few_enough facts (length (unshown_ids facts G)) small (unshown_ids_few facts G (λ name. (given.groups name).0) given.numbers_given) in
    let s : Setting profile (10 ^ 64) G facts = search (arith, number-invented, invented_is_id) in
    (given_is_spool profile (10 ^ 64) G facts s, all_hold profile (10 ^ 64) G facts s)

-- a spool that has facts has what they show, and as many numbers as are given
pub least_of_facts : (profile : Profile) (S G : Spool) (facts : List Fact) → IsSpool profile.limit S → AllByRecursion (Holds S) facts → IsGiven facts G → HasAtLeast facts G S
least_of_facts profile S G facts spool holds given =
    let met : (name : Name) → AllByRecursion (Meets (numbers S name)) (asks_of name facts) = λ name. met_by_facts S name facts holds in
    record {
      groups = λ name i. group_in_S profile.limit S facts spool holds name ((given.groups name).0 i);
      numbers_shown = λ name n t. shown_are_numbers (numbers S name) (asks_of name facts) n (met name) t;
      ids_shown = id_in_S profile.limit S facts spool holds;
      heads_sent = head_in_S profile.limit S facts spool holds;
      fields_told = fields_in_S profile.limit S facts spool holds;
      bodies_sent = body_in_S profile.limit S facts spool holds;
      counts = λ name i. as_few (asks_of name facts) (numbers S name) (met name) (λ n j. (spool.numbers_in_limit name n j).0) (numbers G name) (given.numbers_given name i);
    }
