-- What is kept of what answers say by themselves.
use Rattle.std.specs.Prelude.{ℕ, ◌+◌, ◌*◌, ◌^◌, ◌≤◌, Bool, true, false, List, ◌++◌, length}
use Rattle.nntp_article.specs.declared.session.profile.Profile.{Profile}
use Rattle.nntp_said.specs.Facts.{Fact}
use Rattle.nntp_theory.specs.{Inner.{Given.{size}, Together.{Together}}, Conflict.{Placed, SomeHas, told_with}}
use Rattle.nntp_kept.specs.Inner.Kept.{Kept, IsKept}

-- more facts, which are few, are kept beside those before, where all stands together; and else no spool has all of it
abbrev pub AreTold : Profile → List Fact → List Fact → Kept → Bool → Type 0
AreTold profile facts more new true = Together (facts ++ more) × IsKept (facts ++ more) new × (size more ≤ 2 ^ 65)
AreTold profile facts more new false = SomeHas profile (facts ++ more) → ⊥

-- ---- answers at places

-- what the bad answer and those at the places say is kept, and stands together; it is little for each of them
pub record AreToldWith (profile : Profile) (bad : Placed) (answers : List Placed) (places : List ℕ) (k : Kept) : Type 0 where
  pub kept : IsKept (told_with profile bad answers places) k
  pub together : Together (told_with profile bad answers places)
  pub small : size (told_with profile bad answers places) ≤ 2 ^ 65 * (length places + 1)

-- they are, or no spool has it
abbrev pub PlacesTold : Profile → Placed → List Placed → List ℕ → Kept → Bool → Type 0
PlacesTold profile bad answers places new true = AreToldWith profile bad answers places new
PlacesTold profile bad answers places new false = SomeHas profile (told_with profile bad answers places) → ⊥
