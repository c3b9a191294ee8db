-- What is said with the words of `Writing.antt`, and needn't be believed.
use Rattle.std.specs.Prelude.{ℕ, List, [], Option, Result, Ok, Err}
use Rattle.nntp_store.specs.Writing.{Wrote}

-- the writer took the octets but for the rest, or after a fault a front of them
abbrev pub WritesBut : {A E : Type 0} → Result A E → Option (List ℕ) → Option (List ℕ) → List ℕ → List ℕ → Type 0
WritesBut (Ok x) old new octets rest = Wrote old new octets rest
WritesBut (Err e) old new octets rest = (left : List ℕ) × Wrote old new octets left

-- the writer took all of the octets, or after a fault a front of them
abbrev pub Writes : {A E : Type 0} → Result A E → Option (List ℕ) → Option (List ℕ) → List ℕ → Type 0
Writes result old new octets = WritesBut result old new octets []
