-- What is said with the words of `Conflict.antt`, and needn't be believed.
use Rattle.std.specs.{Prelude.{◌≡◌, ℕ, ◌+◌, ◌<◌, ◌≤◌, List, [], ◌∷◌, ◌++◌, length, IsTrue, IsFalse, ⊤, MatchOption}, List.{AllByRecursion}}
use Rattle.nntp_article.specs.{Session.Machine.{Visible, fits}, declared.session.profile.Profile.{Profile}}
use Rattle.nntp_said.specs.Asks.{Ask}
use Rattle.nntp_theory.specs.{Given.{is_known, is_denied}, Conflict.{Placed, SomeHas, told_with, below, Core}}

-- the answer fits a visible state in which that group is selected
abbrev pub FitsThere : Profile → Placed → Type 0
FitsThere profile a = (v : Visible) × (v.selected ≡ a.selected) × IsTrue (fits profile v a.asked a.response)

-- ---- finding it

-- the places ascend from the bound on, and those below each of them stand with those behind it
abbrev pub AreFound : (List ℕ → Type 0) → ℕ → List ℕ → Type 0
AreFound Stand bound [] = ⊤
AreFound Stand bound (k ∷ places) = (bound ≤ k) × Stand (below k ++ places) × AreFound Stand (k + 1) places

-- what is found of a core while those at and above the bound have been looked at: it conflicts with those below the bound, and each of it is needed
pub record IsPartOfCore (profile : Profile) (bad : Placed) (answers : List Placed) (bound : ℕ) (places : List ℕ) : Type 0 where
  pub there : AllByRecursion (λ k. k < length answers) places
  pub conflict : SomeHas profile (told_with profile bad answers (below bound ++ places)) → ⊥
  pub found : AreFound (λ places. SomeHas profile (told_with profile bad answers places)) bound places

-- ---- what is found of it

-- the last of all its places was found: of one that is cut short, some were
abbrev pub HasLast : Core → Type 0
HasLast core = MatchOption core.rest ⊤ (λ bound. 0 < length core.places)

-- ---- where facts conflict

-- no known number is denied
abbrev pub AreApart : List Ask → Type 0
AreApart asks = (n : ℕ) → IsTrue (is_known asks n) → IsFalse (is_denied asks n)
