-- What holds where a result is a value.
use Rattle.std.{proofs.Common.{Result, arith}, specs.Prelude.{OnOk, IfOk}}

-- what follows there
pub on_ok : {A E P Q : Type 0} (r : Result A E) → (P → Q) → OnOk r P → OnOk r Q
on_ok r h i = grind arith

-- what follows from two things
pub on_both : {A E P Q R : Type 0} (r : Result A E) → (P → Q → R) → OnOk r P → OnOk r Q → OnOk r R
on_both r h i j = grind arith

-- and of the value
pub if_ok : {A E : Type 0} {P Q : A → Type 0} (r : Result A E) → ((x : A) → P x → Q x) → IfOk r P → IfOk r Q
if_ok r x h = grind arith

-- two things of the value
pub if_two : {A E : Type 0} {P Q R : A → Type 0} (r : Result A E) → ((x : A) → P x → Q x → R x) → IfOk r P → IfOk r Q → IfOk r R
if_two r x h i = grind arith
