-- Faults that are passed on.
use Rattle.std.{proofs.Common.{arith, ◌≡◌, Result}, specs.Result.{IsErr, IsErrAnd}}
use Rattle.nntp_store.specs.declared.value.spool_fault.SpoolFault.{SpoolFault, TheVariants.{Memory}}
use Rattle.nntp_witness.specs.Inner.Making.{Makes}

-- want of memory that is passed on stays that
pub memory_passed : {A : Type 0} (r : Result A SpoolFault) (P : A → Type 0) (fault : SpoolFault) → IsErr r × IsErrAnd r (λ e. e ≡ fault) → fault ≡ Memory → Makes r P
memory_passed r P fault h m = grind arith
