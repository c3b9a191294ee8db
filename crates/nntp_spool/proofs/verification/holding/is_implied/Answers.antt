use Rattle.std.{proofs.Common.{ap}, specs.Prelude.{option_map}}
use Rattle.nntp_spool.proofs.AnswersInFacts.{first_implied}
use Rattle.nntp_spool.proofs.verification.holding.is_implied.Goals as goal

pub returns-in-Some-TextIs-Stat-default-None : goal.returns-in-Some-TextIs-Stat-default-None
returns-in-Some-TextIs-Stat-default-None c t S =
    let is = c.in-Some-TextIs-Stat-default-None in
    let nothing = ap (option_map (λ b. b.now)) is.field-0-2-is in
    first_implied S is.field-0-0 is.id.now (option_map (λ b. b.now) is.field-0-2) c.args.facts.now (rw is.field-0-is at is.ensures) is.field-0-0-is nothing (c.place.ensures.0 t)
