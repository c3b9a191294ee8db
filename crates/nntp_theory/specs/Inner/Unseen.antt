-- The numbers that a group is given, and that no answer shows (RFC 3977, section 6.1).
use Rattle.std.specs.Prelude.{◌≤◌, ◌↔◌, ◌⊎◌, IsTrue, IsFalse, IfSome, ◌≡◌, ℕ, List, Option, Some}
use Rattle.nntp_said.specs.Asks.{Ask}
use Rattle.nntp_theory.specs.Given.{is_shown, IsGivenNumber}

-- the number is given, and no given one is less
abbrev pub IsLeastGiven : List Ask → ℕ → Type 0
IsLeastGiven asks n = IsGivenNumber asks n × ((m : ℕ) → IsGivenNumber asks m → n ≤ m)

-- the number is given, and no given one is greater
abbrev pub IsGreatestGiven : List Ask → ℕ → Type 0
IsGreatestGiven asks n = IsGivenNumber asks n × ((m : ℕ) → IsGivenNumber asks m → m ≤ n)

-- the numbers that are given are those that are shown, the least one, where it isn't shown, and the greatest one, where it is neither shown nor the least
pub record AreUnseen (asks : List Ask) (low high : Option ℕ) : Type 0 where
  pub given : (n : ℕ) → IsGivenNumber asks n ↔ (IsTrue (is_shown asks n) ⊎ (low ≡ Some n) ⊎ (high ≡ Some n))
  pub least : IfSome low (λ n. IsFalse (is_shown asks n) × IsLeastGiven asks n)
  pub greatest : IfSome high (λ n. IsFalse (is_shown asks n) × IsGreatestGiven asks n × ¬ (IsLeastGiven asks n))
