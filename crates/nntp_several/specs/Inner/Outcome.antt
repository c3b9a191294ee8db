-- What is said with the words of `Outcome.antt`, and needn't be believed.
use Rattle.std.specs.Prelude.{Bool, true, false, [], ◌∷◌}
use Rattle.nntp_theory.specs.Outcome.{Outcome, Yes, No}
use Rattle.nntp_several.specs.Outcome.{OutcomeOfAll, YesOfAll, NoOfAll}

-- the outcome is a yes
abbrev pub is_yes_of_all : OutcomeOfAll → Bool
is_yes_of_all (YesOfAll spool answers) = true
is_yes_of_all (NoOfAll session answer class) = false

-- what is said of two streams, as what is said of the one session that they are
abbrev pub of_one : Outcome → OutcomeOfAll
of_one (Yes S n) = YesOfAll S (n ∷ [])
of_one (No k class) = NoOfAll 0 k class
