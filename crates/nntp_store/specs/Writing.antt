-- What a writer took of some octets.
use Rattle.std.specs.{Prelude.{◌≡◌, ℕ, List, ◌++◌, Option}, Io.KnownBytes.{Appends}}

-- the writer took the octets but for the rest
abbrev pub Wrote : Option (List ℕ) → Option (List ℕ) → List ℕ → List ℕ → Type 0
Wrote old new octets rest = (front : List ℕ) × (octets ≡ front ++ rest) × Appends old new front
