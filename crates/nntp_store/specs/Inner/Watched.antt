-- What is said with the words of `Watched.antt`, and needn't be believed.
use Rattle.std.specs.Prelude.{ℕ, Bool, true, not, ◌==◌, ◌&&◌, List, length, Result, Ok, Err}
use Rattle.nntp_store.specs.declared.watched.Watched.{Watched}

abbrev pub has_failed_of : {T : Type 0} → Watched T → Bool
has_failed_of w = w.has_failed

-- what a write of these octets answered is an error, or says that none of some octets was taken
abbrev pub takes_none : {E : Type 0} → Result ℕ E → List ℕ → Bool
takes_none (Ok n) octets = (n == 0) && not (length octets == 0)
takes_none (Err _) octets = true
