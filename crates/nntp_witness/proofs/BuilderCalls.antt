-- Calls of a builder that hasn't failed, where there is no fault.
use Rattle.std.proofs.{Common.{arith, ◌≡◌, false, Option, None, Result, Ok, Err}, lemmas.Bool.{true≢false}}
use Rattle.nntp_article.specs.Session.Spool.{Spool}
use Rattle.nntp_store.specs.{Inner.Building.{Building, Builds}, declared.value.spool_fault.SpoolFault.{SpoolFault, TheVariants.{Memory}}}
use Rattle.nntp_witness.specs.Inner.Making.{Makes}

-- the content, where it hasn't failed
whole_still : (old : Building) (made : Spool) → old.failed ≡ false → record old { spool = made } ≡ record { limit = old.limit; spool = made; failed = false }
whole_still old made whole i = record { limit = old.limit; spool = made; failed = whole i }

-- the call is done, or memory was refused
pub called : (P : Building → Type 0) (fault : Option SpoolFault) (made : Spool) (r : Result (Unit {0}) SpoolFault) (old new : Building) → old.failed ≡ false → fault ≡ None
    → P (record { limit = old.limit; spool = made; failed = false }) → Builds fault made r old new → Makes r (λ _. P new)
called P fault made r old new whole none done h = grind (arith, true≢false, whole_still)

-- where it is done, the content is the new one
pub call_done : (fault : Option SpoolFault) (made : Spool) (x : Unit {0}) (old new : Building) → old.failed ≡ false
    → fault ≡ None → Builds fault made (Ok x) old new → new ≡ record { limit = old.limit; spool = made; failed = false }
call_done fault made x old new whole none h = grind (arith, true≢false, whole_still)

-- and else memory was refused
pub call_refused : (fault : Option SpoolFault) (made : Spool) (x : SpoolFault) (old new : Building) → old.failed ≡ false → fault ≡ None → Builds fault made (Err x) old new → x ≡ Memory
call_refused fault made x old new whole none h = grind (arith, true≢false)
