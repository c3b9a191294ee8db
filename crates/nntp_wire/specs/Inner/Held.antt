-- Lines that are held as values of their own.
use Rattle.std.specs.Prelude.{ℕ, List, Vec, map}

-- the octets of lines that are held
abbrev pub held : {A : Type 0} → List (Vec ℕ A) → List (List ℕ)
held lines = map (λ line. line.items) lines
