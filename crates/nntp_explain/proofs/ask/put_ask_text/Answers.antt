use Rattle.std.proofs.{Common.{arith}, lemmas.Grind.{common_steps}}
use Rattle.nntp_explain.proofs.ask.put_ask_text.Goals as goal

pub returns-in_ok-put_number-in-Estimates : goal.returns-in_ok-put_number-in-Estimates
returns-in_ok-put_number-in-Estimates g c = grind (arith, common_steps)

pub returns-in_ok-put_range-in-Lists : goal.returns-in_ok-put_range-in-Lists
returns-in_ok-put_range-in-Lists g c = grind (arith, common_steps)

pub returns-in-StepsUp : goal.returns-in-StepsUp
returns-in-StepsUp g c = grind (arith, common_steps)

pub returns-in-IsTop : goal.returns-in-IsTop
returns-in-IsTop g c = grind (arith, common_steps)

pub returns-in-StandsAt : goal.returns-in-StandsAt
returns-in-StandsAt g c = grind (arith, common_steps)

pub returns-in-StandsNowhere : goal.returns-in-StandsNowhere
returns-in-StandsNowhere g c = grind (arith, common_steps)

pub returns-in-Bounds : goal.returns-in-Bounds
returns-in-Bounds g c = grind (arith, common_steps)
