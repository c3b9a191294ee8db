-- Tables of examples: what is given, and what is made of it.
use Rattle.std.specs.Prelude.{◌≡◌, List, map}

-- the function makes of the first part of each row its second part
abbrev pub Makes : {A B : Type 0} → (A → B) → List (A × B) → Type 0
Makes f rows = map (λ row. f row.0) rows ≡ map (λ row. row.1) rows
