-- Numbers that ascend, seen from the one before them.
use Rattle.std.specs.{Prelude.{ℕ, Bool, true, ◌&&◌, nat_lt, List, [], ◌∷◌, Option, Some}, Option.{option_map_or}}

-- the first is greater than the one before, if there is one, and each than the one before it
abbrev pub ascends_from : Option ℕ → List ℕ → Bool
ascends_from before [] = true
ascends_from before (n ∷ ns) = option_map_or (λ m. nat_lt m n) before true && ascends_from (Some n) ns
