-- Membership by recursion, and what holds of each element of a list.
use Rattle.std.proofs.Common.{ap, ◌≡◌, ◌+◌, ◌≤◌, suc, length, length-append, map, arith, Bool, ◌⊎◌, IsTrue, List, [], ◌∷◌, ◌++◌, Option, None, Some, option_map}
use Rattle.std.proofs.{Common.{inl, inr, refl, subst, ◌∙◌}, lemmas.{Bool.{or_left, or_right, or_cases, and_from, and_parts}, List.Folds.{list_any-append}}}
use Rattle.std.specs.{Prelude.{IfSome, Contains}, List.{AllByRecursion, list_any, list_all, flat_map}, Option.{option_or}}
use Rattle.nntp_said.proofs.FiniteMapsDecided.{Dec}
use Rattle.nntp_theory.specs.Given.{first_given}
pub use Rattle.nntp_said.proofs.FactsHold.{all_both, all_front, all_back}

-- x is an element of xs
abbrev pub In : {A : Type 0} → A → List A → Type 0
In x [] = ⊥
In x (y ∷ ys) = (y ≡ x) ⊎ In x ys

-- what holds of each element holds of one
pub all_at : {A : Type 0} (P : A → Type 0) (x : A) (xs : List A) → AllByRecursion P xs → In x xs → P x
all_at P x [] h i = absurd i
all_at P x (y ∷ ys) h i = grind (arith, all_at P x ys h.1)

-- what holds of one after the other holds of each
pub all_from : {A : Type 0} (P : A → Type 0) (xs : List A) → ((x : A) → In x xs → P x) → AllByRecursion P xs
all_from P [] h = tt
all_from P (x ∷ xs) h = (h x (inl refl), all_from P xs (λ y i. h y (inr i)))

-- an element of the front
pub in_front : {A : Type 0} (x : A) (xs ys : List A) → In x xs → In x (xs ++ ys)
in_front x [] ys i = absurd i
in_front x (z ∷ xs) ys i = grind (arith, in_front x xs ys)

-- an element of the back
pub in_back : {A : Type 0} (x : A) (xs ys : List A) → In x ys → In x (xs ++ ys)
in_back x [] ys i = i
in_back x (z ∷ xs) ys i = inr (in_back x xs ys i)

-- an element of the front or of the back
pub in_cases : {A : Type 0} (x : A) (xs ys : List A) → In x (xs ++ ys) → In x xs ⊎ In x ys
in_cases x [] ys i = inr i
in_cases x (z ∷ xs) ys i = grind (arith, in_cases x xs ys)

-- a change of an element
pub in_map : {A B : Type 0} (f : A → B) (x : A) (xs : List A) → In x xs → In (f x) (map f xs)
in_map f x [] i = absurd i
in_map f x (y ∷ xs) i = grind (arith, in_map f x xs)

-- an element of the changed list comes from one
pub from_map : {A B : Type 0} (f : A → B) (y : B) (xs : List A) → In y (map f xs) → (x : A) × In x xs × (f x ≡ y)
from_map f y [] i = absurd i
from_map f y (x ∷ xs) i = grind (arith, from_map f y xs)

-- an element of a part is one of the joined parts
pub to_flat : {A B : Type 0} (f : A → List B) (x : A) (y : B) (xs : List A) → In x xs → In y (f x) → In y (flat_map f xs)
to_flat f x y [] i j = absurd i
to_flat f x y (z ∷ xs) i j = grind (arith, in_front, in_back, to_flat f x y xs)

-- an element of the joined parts is one of a part
pub from_flat : {A B : Type 0} (f : A → List B) (y : B) (xs : List A) → In y (flat_map f xs) → (x : A) × In x xs × In y (f x)
from_flat f y [] i = absurd i
from_flat f y (x ∷ xs) i = grind (arith, in_cases y (f x) (flat_map f xs) i, from_flat f y xs)

-- membership by places
pub contains_in : {A : Type 0} (x : A) (xs : List A) → In x xs → Contains xs x
contains_in x [] i = absurd i
contains_in x (y ∷ ys) (inl e) = (0, omega arith, e)
contains_in x (y ∷ ys) (inr i) = let c = contains_in x ys i in (suc c.0, let l = c.1 in omega arith, c.2)

-- and back
pub in_contains : {A : Type 0} (x : A) (xs : List A) → Contains xs x → In x xs
in_contains x (y ∷ ys) (suc k, l, e) = inr (in_contains x ys (k, omega arith, e))
in_contains x xs h = grind arith

-- an element that passes is found
pub any_in : {A : Type 0} (p : A → Bool) (x : A) (xs : List A) → In x xs → IsTrue (p x) → IsTrue (list_any p xs)
any_in p x [] i t = absurd i
any_in p x (y ∷ ys) i t = grind (arith, or_left, or_right, any_in p x ys)

-- what is found is an element that passes
pub found_in : {A : Type 0} (p : A → Bool) (xs : List A) → IsTrue (list_any p xs) → (x : A) × In x xs × IsTrue (p x)
found_in p [] h = cc
found_in p (x ∷ xs) h = grind (arith, or_cases, found_in p xs)

-- what holds of each element of the parts holds of each part
pub all_part : {A B : Type 0} (P : B → Type 0) (f : A → List B) (x : A) (xs : List A) → In x xs → AllByRecursion P (flat_map f xs) → AllByRecursion P (f x)
all_part P f x [] i h = absurd i
all_part P f x (y ∷ ys) i h = grind (arith, all_front, all_back, all_part P f x ys)

-- and back
pub all_parts : {A B : Type 0} (P : B → Type 0) (f : A → List B) (xs : List A) → ((x : A) → In x xs → AllByRecursion P (f x)) → AllByRecursion P (flat_map f xs)
all_parts P f [] h = tt
all_parts P f (x ∷ xs) h = all_both P (f x) (flat_map f xs) (h x (inl refl)) (all_parts P f xs (λ y i. h y (inr i)))

-- parts without elements, joined
pub flat_none : {A B : Type 0} (f : A → List B) (xs : List A) → ((x : A) → In x xs → f x ≡ []) → flat_map f xs ≡ []
flat_none f [] h = refl
flat_none f (x ∷ xs) h = ap (λ ys. ys ++ flat_map f xs) (h x (inl refl)) ∙ flat_none f xs (λ y i. h y (inr i))

-- one of them gives what the first gives
pub first_found : {A B : Type 0} (f : B → Option A) (xs : List B) (y : A) → first_given f xs ≡ Some y → (x : B) × In x xs × (f x ≡ Some y)
first_found f [] y e = cc
first_found {A} f (x ∷ xs) y e = grind (arith, first_found f xs y)

-- where one of them gives something, the first gives something
pub first_there : {A B : Type 0} (f : B → Option A) (xs : List B) (x : B) (y : A) → In x xs → f x ≡ Some y → (z : A) × (first_given f xs ≡ Some z)
first_there f [] x y i e = absurd i
first_there {A} f (w ∷ xs) x y i e =
    elim (f w) as (λ o. f w ≡ o → (z : A) × (option_or o (first_given f xs) ≡ Some z)) [ Some z ↦ λ is. (z, refl) | None ↦ λ is. grind (arith, first_there f xs x y) ] refl

-- where nothing is given, no element gives something
pub none_there : {A B : Type 0} (f : B → Option A) (xs : List B) (x : B) → In x xs → first_given f xs ≡ None → f x ≡ None
none_there {A} f xs x i none = grind (arith, first_there f xs x)

-- a part of what is given is that of the first
pub part_first : {A B C : Type 0} (part : A → C) (f : B → Option A) (xs : List B) → first_given (λ x. option_map part (f x)) xs ≡ option_map part (first_given f xs)
part_first part f [] = refl
part_first part f (x ∷ xs) = grind (arith, part_first part f xs)

-- where what is there has it, it has it, if there is anything
pub if_some : {A : Type 0} (o : Option A) (Q : A → Type 0) → ((x : A) → o ≡ Some x → Q x) → IfSome o Q
if_some o Q h = grind arith

-- and what is there has it
pub at_some : {A : Type 0} (Q : A → Type 0) (o : Option A) (x : A) → o ≡ Some x → IfSome o Q → Q x
at_some Q o x e h = subst (λ o. IfSome o Q) e h

-- what one of them gives is what the first gives, where each says it of one thing
pub first_is : {A B : Type 0} (Q : A → Type 0) → ((x y : A) → Q x → Q y → x ≡ y) → (f : B → Option A) (xs : List B)
    → ((z : B) → In z xs → (x : A) → f z ≡ Some x → Q x) → (z : B) → In z xs → (x : A) → f z ≡ Some x → first_given f xs ≡ Some x
first_is Q one f xs says z i x e =
    let w = first_there f xs z x i e in
    let v = first_found f xs w.0 w.1 in
    w.1 ∙ ap Some (one w.0 x (says v.0 v.1 w.0 v.2) (says z i x e))

-- a list where each passes
pub every : {A : Type 0} (p : A → Bool) (xs : List A) → ((x : A) → In x xs → IsTrue (p x)) → IsTrue (list_all p xs)
every p [] h = refl
every p (x ∷ xs) h = grind (arith, and_from, every p xs)

-- each of them passes
pub each_of : {A : Type 0} (p : A → Bool) (xs : List A) (x : A) → IsTrue (list_all p xs) → In x xs → IsTrue (p x)
each_of p [] x h i = absurd i
each_of p (y ∷ ys) x h i = grind (arith, and_parts, each_of p ys x)

-- parts that are each at most one longer than others
pub parts_few : {A B C : Type 0} (f : A → List B) (h : A → List C) (xs : List A) → ((x : A) → In x xs → length (f x) ≤ 1 + length (h x)) → length (flat_map f xs) ≤ length xs + length (flat_map h xs)
parts_few f h [] le = omega arith
parts_few f h (x ∷ xs) le = grind (arith, length-append, parts_few f h xs (λ y i. le y (inr i)))

-- whether each element has it
pub dec_each_in : {A : Type 0} (P : A → Type 0) → ((x : A) → Dec (P x)) → (xs : List A) → Dec ((x : A) → In x xs → P x)
dec_each_in P d [] = inl (λ x i. absurd i)
dec_each_in P d (x ∷ xs) = grind (arith, d x, dec_each_in P d xs)

-- what is found in the back is found
pub any_back : {A : Type 0} (p : A → Bool) (xs ys : List A) → IsTrue (list_any p ys) → IsTrue (list_any p (xs ++ ys))
any_back p xs ys h = list_any-append p xs ys ∙ or_right (list_any p xs) (list_any p ys) h
