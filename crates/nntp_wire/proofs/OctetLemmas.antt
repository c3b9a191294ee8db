-- What is below 256: the items of a slice, and of lists of such.
use Rattle.std.proofs.{Common.{◌≡◌, ℕ, suc, true, List, [], ◌∷◌, ◌++◌, get_or, refl, sym, ◌∙◌, arith, Fits, w8}, lemmas.Bool.{and_parts, and_from}}
use Rattle.std.{proofs.lemmas.{Bool.Decides.{nat_tests}, List.Folds.{list_all-append}}, specs.{Prelude.{nat_lt}, List.{list_all}}}
use Rattle.nntp_wire.specs.{Inner.Octets.{are_octets}, Block.{stuffed, sent}}

-- what a slice of u8 holds
pub octets-fit : (xs : List ℕ) → ((i : ℕ) → Fits w8 (get_or xs i 0)) → are_octets xs ≡ true
octets-fit [] h = refl
octets-fit (x ∷ xs) h = and_from (nat_lt x 256) (are_octets xs) (let first = h 0 in grind (arith, nat_tests)) (octets-fit xs (λ i. h (suc i)))

-- both parts of octets are octets
pub octets-parts : (xs ys : List ℕ) → are_octets (xs ++ ys) ≡ true → (are_octets xs ≡ true) × (are_octets ys ≡ true)
octets-parts xs ys h = and_parts (are_octets xs) (are_octets ys) (sym (list_all-append (λ c. nat_lt c 256) xs ys) ∙ h)

-- a line without the dot in front
pub unstuffed-octets : (line : List ℕ) → are_octets (stuffed line) ≡ true → are_octets line ≡ true
unstuffed-octets line h = grind arith

-- each line of octets that send lines
pub sent-octets : (lines : List (List ℕ)) → are_octets (sent lines) ≡ true → list_all are_octets lines ≡ true
sent-octets [] h = refl
sent-octets (line ∷ lines) h = grind (arith, octets-parts, and_from, unstuffed-octets, sent-octets lines)
