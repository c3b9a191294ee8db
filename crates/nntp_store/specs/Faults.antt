-- What `Spool::read` answers where octets aren't taken.
use Rattle.std.specs.Prelude.{◌≡◌, ◌≢◌, ℕ, List, Err}
use Rattle.nntp_store.specs.{declared.text.read_fault.ReadFault.{ReadFault}, Limited.{LimitedSpool, IsWithinLimit}, Text.{spool_text}, Reading.{spool_at}}

-- the octets are the text of no spool, and this is their first fault
abbrev pub IsFirstFault : List ℕ → ReadFault → Type 0
IsFirstFault octets fault = (spool_at octets ≡ Err fault) × ((L : LimitedSpool) → IsWithinLimit L → octets ≢ spool_text L)
