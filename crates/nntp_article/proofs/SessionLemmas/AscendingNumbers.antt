-- Each number is greater than all before it exactly if it is greater than the one before it.
use Rattle.std.proofs.{Common.{◌≡◌, ℕ, true, List, [], ◌∷◌, None, Some, refl, arith}, lemmas.Bool.{and_from, and_parts, Decides.{nat_tests}}}
use Rattle.std.specs.{Prelude.{nat_lt}, List.{list_all}}
use Rattle.nntp_article.specs.{Session.Machine.{is_ascending}, Inner.Ascending.{ascends_from}}

all_above : (m n : ℕ) (ns : List ℕ) → nat_lt m n ≡ true → list_all (λ k. nat_lt n k) ns ≡ true → list_all (λ k. nat_lt m k) ns ≡ true
all_above m n [] lt h = refl
all_above m n (k ∷ ns) lt h =
    let both = and_parts (nat_lt n k) (list_all (λ k. nat_lt n k) ns) h in
    grind (arith, nat_tests, and_from, all_above m n ns lt both.1)

from_before : (m : ℕ) (ns : List ℕ) → ascends_from (Some m) ns ≡ true → (list_all (λ k. nat_lt m k) ns ≡ true) × (is_ascending ns ≡ true)
from_before m [] h = (refl, refl)
from_before m (n ∷ ns) h =
    let both = and_parts (nat_lt m n) (ascends_from (Some n) ns) h in
    grind (arith, and_from, all_above, from_before n ns both.1)

to_before : (m : ℕ) (ns : List ℕ) → list_all (λ k. nat_lt m k) ns ≡ true → is_ascending ns ≡ true → ascends_from (Some m) ns ≡ true
to_before m [] h g = refl
to_before m (n ∷ ns) h g =
    let rest = and_parts (list_all (λ k. nat_lt n k) ns) (is_ascending ns) g in
    grind (arith, and_parts, and_from, to_before n ns rest.0 rest.1)

pub ascends-ascending : (ns : List ℕ) → ascends_from None ns ≡ is_ascending ns
ascends-ascending [] = refl
ascends-ascending (n ∷ ns) = grind (arith, from_before, and_from, and_parts, to_before)
