-- What is said with the words of `Outcome.antt`, and needn't be believed.
use Rattle.std.specs.Prelude.{Bool, true, false}
use Rattle.nntp_theory.specs.Outcome.{Outcome, Yes, No}

-- the outcome is a yes
abbrev pub is_yes : Outcome → Bool
is_yes (Yes spool answers) = true
is_yes (No answer class) = false
