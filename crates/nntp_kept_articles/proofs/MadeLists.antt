-- Lists that are made of another.
use Rattle.nntp_kept_articles.proofs.Base.{◌≡◌, Bool, ◌||◌, List, [], ◌∷◌, map, refl, subst, list_any, AllByRecursion, In, all_from, from_map}

-- what is read off the made ones can be read off the others
pub read_off : {A B C : Type 0} (f : C → A) (k : A → B) (h : C → B) (xs : List C) → ((x : C) → k (f x) ≡ h x) → map k (map f xs) ≡ map h xs
read_off f k h [] same = refl
read_off f k h (x ∷ xs) same = λ i. same x i ∷ read_off f k h xs same i

-- a test of the made ones is one of the others
pub any_along : {A B C : Type 0} (f : C → A) (h : C → B) (p : A → Bool) (q : B → Bool) (xs : List C) → ((x : C) → p (f x) ≡ q (h x)) → list_any p (map f xs) ≡ list_any q (map h xs)
any_along f h p q [] same = refl
any_along f h p q (x ∷ xs) same = λ i. same x i || any_along f h p q xs same i

-- what holds of each of them
pub all_along : {A C : Type 0} (P : A → Type 0) (f : C → A) (xs : List C) → ((x : C) → In x xs → P (f x)) → AllByRecursion P (map f xs)
all_along P f xs each = all_from P (map f xs) (λ y i. let g = from_map f y xs i in subst P g.2 (each g.0 g.1))
