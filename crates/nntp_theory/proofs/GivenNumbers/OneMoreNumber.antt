-- Whether one more number is needed, and the search for it.
use Rattle.std.{proofs.Common.{◌≡◌, ℕ, ◌≤◌, Bool, cond, IsTrue, List, Option, None, Some, inl, refl, sym, subst, arith, [], ◌∷◌}, specs.List.{list_any}}
use Rattle.std.specs.List.{flat_map}
use Rattle.nntp_said.specs.Asks.{Ask}
use Rattle.nntp_theory.proofs.{GivenNumbers.FirstFreeNumber.{free_is, free_none}, Ids.SmallGivenSpool.{named_by, known_named}, Members.{In, found_in, to_flat}}
use Rattle.nntp_theory.{proofs.Members.{from_flat}, specs.{Given.{is_known, is_denied, demand, wants, IsOneMore}, Inner.OneMore.{free, if_wanted}}}

-- ---- the numbers that are known

-- the number, if it is known
abbrev if_known : List Ask → ℕ → List ℕ
if_known asks n = cond (is_known asks n) (n ∷ []) []

-- the numbers that are known
abbrev pub known_list : List Ask → List ℕ
known_list asks = flat_map (if_known asks) (flat_map named_by asks)

-- a number that is known is in the list
pub in_known_list : (asks : List Ask) (n : ℕ) → IsTrue (is_known asks n) → In n (known_list asks)
in_known_list asks n t =
    let f = known_named asks n t in
    to_flat (if_known asks) n n (flat_map named_by asks) (to_flat named_by f.0 n asks f.1 f.2) (subst (λ b. In n (cond b (n ∷ []) [])) (sym t) (inl refl))

-- and back
pub from_known_list : (asks : List Ask) (n : ℕ) → In n (known_list asks) → IsTrue (is_known asks n)
from_known_list asks n i = grind (arith, from_flat, if_known, named_by)

-- ---- the one more number, if it is needed

-- a number is known that is wanted
abbrev is_met : List Ask → Bool
is_met asks = list_any (λ n. wants (demand asks) n) (known_list asks)

-- the one more number, if there is one
abbrev pub more : ℕ → List Ask → Option ℕ
more limit asks = cond (is_met asks) None (if_wanted (demand asks) (free (is_denied asks) limit 1))

-- and it is found, if it is within the limit
pub more_found : (limit : ℕ) (asks : List Ask) (n : ℕ) → IsOneMore asks n → n ≤ limit → more limit asks ≡ Some n
more_found limit asks n x within = grind (arith, found_in, from_known_list, free_none (is_denied asks) limit 1, free_is)
