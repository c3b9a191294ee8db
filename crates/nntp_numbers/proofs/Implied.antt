-- What is within an estimate is within another.
use Rattle.std.proofs.Common.{◌≡◌, ℕ, true, Option}
use Rattle.nntp_theory.specs.Inner.Estimates.{is_within}

-- what is within the first is within the other
abbrev pub Implies : Option ℕ → Option ℕ → Type 0
Implies estimate other = (n : ℕ) → is_within estimate n ≡ true → is_within other n ≡ true
