-- Of several conditions, the first that fails: where there is none, and what holds of it.
use Rattle.std.{proofs.Common.{arith, ◌≡◌, Bool, true, false, ◌&&◌, Option, None, List, [], ◌∷◌, map, refl, ap, ◌∙◌}, specs.Prelude.{is_none, IfSome}}
use Rattle.std.specs.List.{list_all}
use Rattle.nntp_wire.specs.Reason.{unless, first}

-- ---- no reason

pub none_unless : {A : Type 0} (b : Bool) (why : A) → is_none (unless b why) ≡ b
none_unless b why = grind arith

pub none_first : {A : Type 0} (o : Option A) (others : List (Option A)) → is_none (first (o ∷ others)) ≡ (is_none o && is_none (first others))
none_first o others = grind arith

pub and_true : (b : Bool) → (b && true) ≡ b
and_true b = grind arith

pub none_two : {A : Type 0} (a b : Option A) (p q : Bool) → is_none a ≡ p → is_none b ≡ q → is_none (first (a ∷ b ∷ [])) ≡ (p && q)
none_two a b p q e f = none_first a (b ∷ []) ∙ ap (λ x. is_none a && x) (none_first b [] ∙ and_true (is_none b) ∙ f) ∙ ap (λ x. x && q) e

pub none_three : {A : Type 0} (a b c : Option A) (p q r : Bool) → is_none a ≡ p → is_none b ≡ q → is_none c ≡ r
    → is_none (first (a ∷ b ∷ c ∷ [])) ≡ (p && q && r)
none_three a b c p q r e f g = grind arith

pub none_four : {A : Type 0} (a b c d : Option A) (p q r s : Bool) → is_none a ≡ p → is_none b ≡ q → is_none c ≡ r → is_none d ≡ s
    → is_none (first (a ∷ b ∷ c ∷ d ∷ [])) ≡ (p && q && r && s)
none_four a b c d p q r s e f g h = grind arith

pub none_five : {A : Type 0} (a b c d e : Option A) (p q r s t : Bool) → is_none a ≡ p → is_none b ≡ q → is_none c ≡ r → is_none d ≡ s → is_none e ≡ t
    → is_none (first (a ∷ b ∷ c ∷ d ∷ e ∷ [])) ≡ (p && q && r && s && t)
none_five a b c d e p q r s t h i j k l = grind arith

pub none_each : {A B : Type 0} (f : A → Option B) (p : A → Bool) → ((x : A) → is_none (f x) ≡ p x) → (xs : List A) → is_none (first (map f xs)) ≡ list_all p xs
none_each f p e [] = refl
none_each f p e (x ∷ xs) = grind (arith, none_first, e x, none_each f p e xs)

-- there is no reason exactly if the test says so
pub none_by_test : {A : Type 0} (o : Option A) → is_none o ≡ true → o ≡ None
none_by_test o h = grind arith

-- ---- a reason

pub so_unless : {A : Type 0} (Q : A → Type 0) (b : Bool) (why : A) → (b ≡ false → Q why) → IfSome (unless b why) Q
so_unless Q b why f = grind arith

pub so_first : {A : Type 0} (Q : A → Type 0) (o : Option A) (others : List (Option A)) → IfSome o Q → IfSome (first others) Q → IfSome (first (o ∷ others)) Q
so_first Q o others p q = grind arith

pub so_two : {A : Type 0} (Q : A → Type 0) (a b : Option A) → IfSome a Q → IfSome b Q → IfSome (first (a ∷ b ∷ [])) Q
so_two Q a b p q = so_first Q a (b ∷ []) p (so_first Q b [] q tt)

pub so_each : {A B : Type 0} (Q : B → Type 0) (f : A → Option B) → ((x : A) → IfSome (f x) Q) → (xs : List A) → IfSome (first (map f xs)) Q
so_each Q f p [] = tt
so_each Q f p (x ∷ xs) = so_first Q (f x) (map f xs) (p x) (so_each Q f p xs)

-- ---- loops that end at the first reason

pub first_alone : {A : Type 0} (o : Option A) → first (o ∷ []) ≡ o
first_alone o = grind arith
