-- A value that is there exactly if a test passes.
use Rattle.std.{proofs.Common.{arith, ◌≡◌, ◌↔◌, Bool, Option, IsTrue}, specs.{Prelude.{is_some}, Option.{SomeIff}}}

pub some-test : {T : Type 0} (test : Bool) (P : Type 0) (v : T) (r : Option T) (b : Bool) → IsTrue test ↔ P → SomeIff r P v → b ≡ is_some r → b ≡ test
some-test test P v r b iff none e = grind arith
