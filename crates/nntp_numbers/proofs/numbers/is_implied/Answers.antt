use Rattle.std.proofs.{Common.{◌+◌, arith}, lemmas.Bool.Decides.{nat_tests}}
use Rattle.nntp_numbers.proofs.numbers.is_implied.Goals as goal

pub returns-in-None-Some : goal.returns-in-None-Some
returns-in-None-Some c = (λ t. cc, λ h. grind (arith, nat_tests, h (c.in-None-Some.field-0-1 + 1)))

pub returns-in-Some-Some : goal.returns-in-Some-Some
returns-in-Some-Some c = (λ t n. grind (arith, nat_tests), λ h. grind (arith, nat_tests, h c.in-Some-Some.estimate))
