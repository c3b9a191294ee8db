-- Whether a value is there.
use Rattle.std.proofs.Common.{arith, ◌≡◌, Option, None, Some, IsSome}

-- what isn't there is none
pub none_of : {A : Type 0} (o : Option A) → (IsSome o → ⊥) → o ≡ None
none_of o h = grind arith

-- what is there is something
pub some_is : {A : Type 0} (o : Option A) → IsSome o → (x : A) × (o ≡ Some x)
some_is o h = grind arith
