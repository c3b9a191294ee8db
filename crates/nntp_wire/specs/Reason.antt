-- Reasons: of several conditions, the first that fails.
use Rattle.std.specs.Prelude.{Bool, true, false, List, [], ◌∷◌, Option, None, Some}

-- a reason, unless the condition holds
abbrev pub unless : {A : Type 0} → Bool → A → Option A
unless true why = None
unless false why = Some why

-- the first reason there is
abbrev pub first : {A : Type 0} → List (Option A) → Option A
first [] = None
first (None ∷ others) = first others
first (Some why ∷ others) = Some why
