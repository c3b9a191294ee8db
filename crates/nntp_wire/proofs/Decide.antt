-- What can be decided.
use Rattle.std.proofs.{Common.{◌≡◌, ℕ, ◌⊎◌, ◌≤◌, Bool, IsTrue, Option, None, List, [], ◌∷◌, inl, inr, arith}, lemmas.Bool.{cases_Bool, leb-true, leb-false}}
use Rattle.std.specs.{Prelude.{nat_le}, List.{AllByRecursion}}

-- it holds, or it does not
abbrev pub Dec : Type 0 → Type 0
Dec P = P ⊎ (P → ⊥)

pub dec_true : (b : Bool) → Dec (IsTrue b)
dec_true b = grind arith

pub dec_le : (a b : ℕ) → Dec (a ≤ b)
dec_le a b = elim (cases_Bool (nat_le a b)) [ inl t ↦ inl (leb-true a b t) | inr f ↦ inr (λ h. let l = leb-false a b f in omega arith) ]

pub dec_both : {P Q : Type 0} → Dec P → Dec Q → Dec (P × Q)
dec_both h q = grind arith

pub dec_three : {P Q R : Type 0} → Dec P → Dec Q → Dec R → Dec (P × Q × R)
dec_three h q r = grind arith

pub dec_to : {P Q : Type 0} → Dec P → Dec Q → Dec (P → Q)
dec_to h q = grind arith

pub dec_by : {P Q : Type 0} → (P → Q) → (Q → P) → Dec P → Dec Q
dec_by f g h = grind arith

pub dec_none : {A : Type 0} (o : Option A) → Dec (o ≡ None)
dec_none o = grind arith

pub dec_all : {A : Type 0} (P : A → Type 0) → ((x : A) → Dec (P x)) → (xs : List A) → Dec (AllByRecursion P xs)
dec_all P d [] = inl tt
dec_all P d (x ∷ xs) = dec_both (d x) (dec_all P d xs)
