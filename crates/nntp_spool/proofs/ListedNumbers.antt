-- Numbers that are listed one after the other are those of a group within a range.
use Rattle.std.proofs.Common.{◌≡◌, ◌⊎◌, inl, inr, ⊎_elim, ℕ, suc, ◌<◌, ◌≤◌, ◌-◌, true, List, [], ◌∷◌, Option, Some, MatchOption, refl, sym, ap, subst, ◌∙◌}
use Rattle.std.proofs.{Common.{arith}, lemmas.{Bool.{and_parts, cases_lt, Decides.{nat_tests}}, List.{Elements.{All-contains}, Sums.{AllPass-from_list_all}}}}
use Rattle.std.specs.{List.{list_all}, Prelude.{Contains, IfSome, ◌↔◌, nat_lt, ⊤}, Option.{SomeIff}}
use Rattle.nntp_wire.specs.declared.range.Range.{Range}
use Rattle.nntp_article.specs.Session.{Machine.{is_ascending}, Spool.{Numbers, IsNumber, IsNextAbove, Lists, NoneAbove}}
use Rattle.nntp_spool.specs.Inner.ListedNumbers.{IsAbove, IsNextFrom, ListsFrom}

contains_cons : {X : Type 0} (n m : X) (ns : List X) → Contains (n ∷ ns) m → (m ≡ n) ⊎ Contains ns m
contains_cons n m ns h = grind arith

pub cons_contains : {X : Type 0} (n m : X) (ns : List X) → (m ≡ n) ⊎ Contains ns m → Contains (n ∷ ns) m
cons_contains n m ns (inl e) = (0, omega arith, sym e)
cons_contains n m ns (inr (k, lt, e)) = (suc k, omega arith, e)

above_all : (n m : ℕ) (ns : List ℕ) → list_all (λ k. nat_lt n k) ns ≡ true → Contains ns m → n < m
above_all n m ns h c =
    let lt : nat_lt n m ≡ true = All-contains (λ k. nat_lt n k ≡ true) ns m (AllPass-from_list_all (λ k. nat_lt n k) ns h) c in
    grind (arith, nat_tests)

-- the first of the numbers that are left of a list, where they are listed from here on exactly if the whole is
module _ (N : Numbers) (r : Range) (before : Option ℕ) (left : List ℕ) (n : ℕ) (ns : List ℕ) (steps : left ≡ n ∷ ns) (ascends : is_ascending left ≡ true) (Whole : Type 0)
    (same : ListsFrom N r before left ↔ Whole) where
  up : (list_all (λ k. nat_lt n k) ns ≡ true) × (is_ascending ns ≡ true)
  up = and_parts (list_all (λ k. nat_lt n k) ns) (is_ascending ns) (ap is_ascending (sym steps) ∙ ascends)

  listed : ListsFrom N r before (n ∷ ns) ↔ Whole
  listed = subst (λ (ls : List ℕ). ListsFrom N r before ls ↔ Whole) steps same

  below_last : (last : Option ℕ) (m : ℕ) → m < n → IfSome last (λ l. n ≤ l) → IfSome last (λ l. m ≤ l)
  below_last last m lt fit = grind arith

  -- it is the next one
  pub is_next : Whole → IsNextFrom N before (Some n) × IfSome r.last (λ last. n ≤ last)
  is_next whole = ((is.0, is.1, least), is.2)
    where
      is : IsNumber N n × IsAbove before n × IfSome r.last (λ last. n ≤ last)
      is = (listed.1 whole n).0 (cons_contains n n ns (inl refl))

      least : (m : ℕ) → IsAbove before m → IsNumber N m → n ≤ m
      least m a is_m = elim (cases_lt m n) [
        | inr le ↦ le
        | inl lt ↦ ⊎_elim (λ e. omega (arith, e)) (λ c. omega (arith, above_all n m ns up.0 c)) (contains_cons n m ns ((listed.1 whole m).1 (is_m, a, below_last r.last m lt is.2)))
      ]

  -- and those behind it are listed from it on
  pub taken : IsNextFrom N before (Some n) × IfSome r.last (λ last. n ≤ last) → (ListsFrom N r (Some n) ns ↔ Whole) × (is_ascending ns ≡ true)
  taken (here, fits) = (
    (
      λ h. listed.0 (λ m. (
        λ c. ⊎_elim (λ e. subst (λ (k : ℕ). IsNumber N k × IsAbove before k × IfSome r.last (λ last. k ≤ last)) (sym e) (here.0, here.1, fits))
            (λ c. let is = (h m).0 c in (is.0, above m is.1, is.2)) (contains_cons n m ns c),
        λ (is, a, fit). let le = here.2 m a is in
            cons_contains n m ns (elim (cases_lt n m) [ inl lt ↦ inr ((h m).1 (is, lt, fit)) | inr ge ↦ inl (omega arith) ]),
      )),
      λ whole m. let h = listed.1 whole m in (
        λ c. let is = h.0 (cons_contains n m ns (inr c)) in (is.0, above_all n m ns up.0 c, is.2),
        λ (is, lt, fit). ⊎_elim (λ e. absurd (omega (arith, e, lt))) (λ c. c) (contains_cons n m ns (h.1 (is, above m lt, fit))),
      ),
    ),
    up.1,
  )
    where
      above : (m : ℕ) → n < m → IsAbove before m
      above m lt = grind arith

-- nothing is left
pub none_left : (N : Numbers) (r : Range) (before first : Option ℕ) → IsNextFrom N before first
    → ListsFrom N r before [] ↔ MatchOption first ⊤ (λ n. IfSome r.last (λ last. n ≤ last) → ⊥)
none_left N r before first none = grind arith

-- above the number before this one, where there is one, are those from it on
from_number : (first : ℕ) (before : Option ℕ) → SomeIff before (1 ≤ first) (first - 1) → (n : ℕ) → IsAbove before n ↔ (first ≤ n)
from_number first before is n = grind arith

-- from the start of the range on
pub lists_from_range : (N : Numbers) (r : Range) (ns : List ℕ) (before : Option ℕ) → SomeIff before (1 ≤ r.first) (r.first - 1) → ListsFrom N r before ns ↔ Lists N r ns
lists_from_range N r ns before is = let from = from_number r.first before is in (
  λ h n. (λ c. let is = (h n).0 c in (is.0, ((from n).0 is.1, is.2)), λ (is, within). (h n).1 (is, (from n).1 within.0, within.1)),
  λ h n. (λ c. let is = (h n).0 c in (is.0, (from n).1 is.1.0, is.1.1), λ (is, a, fit). (h n).1 (is, ((from n).0 a, fit))),
)

-- the least number above one is the next from it
pub from_above : (N : Numbers) (c : ℕ) (next : Option ℕ) → MatchOption next (NoneAbove N c) (λ n. IsNextAbove N c n) → IsNextFrom N (Some c) next
from_above N c next h = grind arith
