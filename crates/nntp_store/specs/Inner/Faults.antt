-- What is said with the words of `Faults.antt`, and needn't be believed.
use Rattle.std.specs.Prelude.{◌≡◌, ◌⊎◌, ℕ, List}
use Rattle.nntp_store.specs.{declared.text.read_fault.{Kind.TheVariants.{Memory}, ReadFault.{ReadFault}}, Faults.{IsFirstFault}}

-- the fault is the first one of the octets, or want of memory, told of line 0
abbrev pub IsFault : List ℕ → ReadFault → Type 0
IsFault octets fault = IsFirstFault octets fault ⊎ (fault ≡ record { line = 0; kind = Memory })
