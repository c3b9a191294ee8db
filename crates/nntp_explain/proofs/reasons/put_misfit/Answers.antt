use Rattle.std.proofs.{Common.{arith}, lemmas.Grind.{common_steps}}
use Rattle.nntp_explain.proofs.reasons.put_misfit.Goals as goal

pub returns-in-WrongName : goal.returns-in-WrongName
returns-in-WrongName g c = grind (arith, common_steps)

pub returns-in-WrongId : goal.returns-in-WrongId
returns-in-WrongId g c = grind (arith, common_steps)

pub returns-in-WrongMarks : goal.returns-in-WrongMarks
returns-in-WrongMarks g c = grind (arith, common_steps)

pub returns-in-Unmatched : goal.returns-in-Unmatched
returns-in-Unmatched g c = grind (arith, common_steps)

pub returns-in-ListedTwice : goal.returns-in-ListedTwice
returns-in-ListedTwice g c = grind (arith, common_steps)

pub returns-in-OtherId : goal.returns-in-OtherId
returns-in-OtherId g c = grind (arith, common_steps)

pub returns-in-WrongNumber : goal.returns-in-WrongNumber
returns-in-WrongNumber g c = grind (arith, common_steps)

pub returns-in-BelowLow : goal.returns-in-BelowLow
returns-in-BelowLow g c = grind (arith, common_steps)

pub returns-in-BeyondLimit : goal.returns-in-BeyondLimit
returns-in-BeyondLimit g c = grind (arith, common_steps)

pub returns-in-BeyondRange : goal.returns-in-BeyondRange
returns-in-BeyondRange g c = grind (arith, common_steps)

pub returns-in-WrongCode : goal.returns-in-WrongCode
returns-in-WrongCode g c = grind (arith, common_steps)

pub returns-in-NotAbove : goal.returns-in-NotAbove
returns-in-NotAbove g c = grind (arith, common_steps)

pub returns-in-WrongLines : goal.returns-in-WrongLines
returns-in-WrongLines g c = grind (arith, common_steps)

pub returns-in-NoHead : goal.returns-in-NoHead
returns-in-NoHead g c = grind (arith, common_steps)
