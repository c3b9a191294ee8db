-- The first key of a map from numbers is its least.
use Rattle.std.proofs.{Common.{◌≡◌, ℕ, ◌<◌, ◌≤◌, T, None, MatchOption, IsSome, List, [], ◌∷◌, map, refl, arith}, lemmas.Bool.Decides.{nat_tests}}
use Rattle.std.specs.{Prelude.{slice_get}, Ordering.{nat_cmp}, Cmp.{unsigned_tied}, FinMap.{FinMap, get, find, is_sorted, entries, entries_sorted, get-entries}}
use Rattle.std.specs.FinMap.{keys, Entries.{below_all}}

-- a number below all keys is below each that is found
below_found : {X : Type 0} (x : ℕ) (es : List (ℕ × X)) (m : ℕ) → T (below_all nat_cmp x es) → IsSome (find nat_cmp m es) → x < m
below_found x [] m h s = grind (arith, nat_tests)
below_found x (e ∷ es) m h s = grind (arith, nat_tests, below_found x es m)

pub first_of : {X : Type 0} (es : List (ℕ × X)) → T (is_sorted nat_cmp es)
    → MatchOption (slice_get (map (λ e. e.0) es) 0) ((m : ℕ) → find nat_cmp m es ≡ None)
    (λ n. IsSome (find nat_cmp n es) × ((m : ℕ) → IsSome (find nat_cmp m es) → n ≤ m))
first_of [] h = λ m. refl
first_of (e ∷ es) h = (grind (arith, nat_tests, unsigned_tied e.0 e.0), λ m s. grind (arith, nat_tests, below_found e.0 es m, unsigned_tied m e.0))

pub first_of_map : {X : Type 0} (N : FinMap nat_cmp X) → MatchOption (slice_get (keys N) 0) ((m : ℕ) → get N m ≡ None) (λ n. IsSome (get N n) × ((m : ℕ) → IsSome (get N m) → n ≤ m))
first_of_map N = simp get-entries (first_of (entries N) (entries_sorted N))
