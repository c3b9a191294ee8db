-- What numbers meet stands together.
use Rattle.nntp_theory.proofs.{GivenNumbers.FirstFreeNumber.{first_free_once, first_free}, Members.{In, all_at, all_from, any_in, found_in, contains_in}}
use Rattle.nntp_theory.{proofs.{Members.{in_contains, every}, Maps.{len_le}}, specs.Given.{is_shown, is_denied, demand, wants, IsOneMore, IsGivenNumber}}
use Rattle.nntp_theory.specs.{Given.{HasGivenNumbers, says_some, is_known}, declared.demand.Demand.{Demand, TheVariants.{SecondIs}}, Together.{is_possible}}
use Rattle.nntp_theory.specs.{Together.{MeetsDemand}, Inner.Together.{AsksStand}}
use Rattle.std.proofs.Common.{◌⊎◌, ◌≡◌, ℕ, ◌≤◌, Bool, true, ◌==◌, not, IsTrue, List, [], ◌∷◌, inl, inr, refl, sym, ◌∙◌, arith, ◌&&◌, Option, None, Some}
use Rattle.std.proofs.{Common.{is_some, ap}, lemmas.Bool.{true≢false, or_left, or_right, or_cases, and_parts, eqb-true, ltb-true, cases_Bool, not-true}}
use Rattle.std.proofs.lemmas.{Bool.{cases_eq, cases_order, eq-eqb, and_from, le-leb, lt-ltb, Decides.{nat_tests}}, Map.Views.{Contains-from_any}}
use Rattle.std.{proofs.lemmas.Map.{Views.{list_any-from_Contains, tells_apart}, Lookups.{exact_unsigned}}, specs.Prelude.{IsFalse, Contains}}
use Rattle.std.specs.{List.{AllByRecursion, list_any}, Cmp.{nat_cmp_total, nat_eq_equiv, eq_by_cmp_equiv}, FinMap.{len, keys, insert, remove, get-insert}}
use Rattle.std.specs.FinMap.{get-remove, len-insert, len-remove, empty_of_len, get-empty, contains_key-keys, get}
use Rattle.nntp_wire.specs.declared.range.Range.{Range}
use Rattle.nntp_article.specs.{Session.{Spool.{Numbers, IsNumber, IsInRange, least}, Machine.{is_in_range}}, Inner.Spool.{IsFirst}}
use Rattle.nntp_article.proofs.SessionLemmas.LeastNumber.{first_of_map}
use Rattle.nntp_said.specs.Asks.{Ask, Meets, ListsIn}

-- ---- the first number, by cases

-- there is no number, or there is a first one
pub data Firsts (N : Numbers) : Type 0 where
  Empty : least N ≡ None → ((m : ℕ) → IsNumber N m → ⊥) → Firsts N
  Begins : (c : ℕ) → least N ≡ Some c → IsNumber N c → ((m : ℕ) → IsNumber N m → c ≤ m) → Firsts N

pub not_number : (N : Numbers) (m : ℕ) → get N m ≡ None → IsNumber N m → ⊥
not_number N m e h = true≢false (sym h ∙ ap is_some e)

firsts_of : (N : Numbers) (o : Option ℕ) → least N ≡ o → IsFirst N o → Firsts N
firsts_of N None e h = Empty e (λ m. not_number N m (h m))
firsts_of N (Some c) e h = Begins c e h.0 h.1

pub firsts : (N : Numbers) → Firsts N
firsts N = firsts_of N (least N) refl (first_of_map N)

pub least_is : (N : Numbers) (c : ℕ) → IsNumber N c → ((m : ℕ) → IsNumber N m → c ≤ m) → least N ≡ Some c
least_is N c here all = grind (arith, firsts)

-- ---- what is tested

pub listed_in : (ns : List ℕ) (n : ℕ) → IsTrue (list_any (λ m. n == m) ns) → Contains ns n
listed_in ns n h = Contains-from_any eqb-true n ns h

pub finds : (ns : List ℕ) (n : ℕ) → Contains ns n → IsTrue (list_any (λ m. n == m) ns)
finds ns n h = list_any-from_Contains nat_eq_equiv n ns h

pub in_range_back : (r : Range) (n : ℕ) → IsInRange r n → IsTrue (is_in_range r n)
in_range_back r n h = grind (arith, and_from, le-leb)

-- ---- what an answer shows is a number, and what it denies isn't

-- ---- of all that is asked

pub shown_are_numbers : (N : Numbers) (asks : List Ask) (n : ℕ) → AllByRecursion (Meets N) asks → IsTrue (is_shown asks n) → IsNumber N n
shown_are_numbers N asks n met s = grind (arith, found_in, all_at, listed_in, eqb-true, firsts)

-- ---- the demand

-- numbers that meet what is asked meet the demand
demand_of : (N : Numbers) (asks : List Ask) → AllByRecursion (Meets N) asks → MeetsDemand (demand asks) (IsNumber N)
demand_of N [] met = tt
demand_of N (ask ∷ asks) met = grind (arith, firsts, cases_order, not_number, demand_of N asks met.1)

-- a second number is shown
pub second_shown : (asks : List Ask) (k : ℕ) → demand asks ≡ SecondIs k → IsTrue (is_shown asks k)
second_shown [] k e = cc
second_shown (ask ∷ asks) k e = grind (arith, or_left, or_right, second_shown asks k)

-- what is wanted of a number is wanted of each one below it
pub wants_less : (d : Demand) (n m : ℕ) → m ≤ n → wants d n ≡ true → wants d m ≡ true
wants_less d n m h i = grind arith

-- where a number is wanted, one that is wanted meets the demand
pub wanted_there : (P : ℕ → Type 0) (d : Demand) (n : ℕ) → MeetsDemand d P → wants d n ≡ true → (c : ℕ) × P c × (wants d c ≡ true)
wanted_there P d n c h = grind arith

-- ---- what can be

-- an ask that is met is possible
possible_in : (N : Numbers) (ask : Ask) → Meets N ask → IsTrue (is_possible ask)
possible_in N ask h = grind (arith, every, in_range_back, contains_in, eq-eqb, lt-ltb, firsts)

-- ---- keys

-- a number is one of the keys
pub key_in : (N : Numbers) (n : ℕ) → IsNumber N n → In n (keys N)
key_in N n i = in_contains n (keys N) (Contains-from_any (tells_apart exact_unsigned) n (keys N) (sym (contains_key-keys N n) ∙ i))

-- and back
pub key_is : (N : Numbers) (n : ℕ) → In n (keys N) → IsNumber N n
key_is N n i = grind (arith, contains_key-keys, any_in, (eq_by_cmp_equiv nat_cmp_total).refl)

-- to put a number in the place of another leaves how many there are
len_replaced : (G : Numbers) (d c : ℕ) → IsNumber G d → (IsNumber G c → c ≡ d) → len (insert (remove G d) c []) ≡ len G
len_replaced G d c there only = grind (arith, get-remove nat_cmp_total G d c, cases_eq (len G) 0, empty_of_len G, get-empty, len-insert nat_cmp_total (remove G d) c [], len-remove nat_cmp_total G d)

-- ---- numbers that are known

-- what is shown is known
pub shown_known : (asks : List Ask) (n : ℕ) → IsTrue (is_shown asks n) → IsTrue (is_known asks n)
shown_known asks n s = or_left (is_shown asks n) _ s

-- where it is said that there is a number, there is one
some_there : (N : Numbers) (ask : Ask) → Meets N ask → says_some ask ≡ true → (n : ℕ) × IsNumber N n
some_there N (ListsIn r (m ∷ ns)) h t = (m, grind (arith, listed_in, eqb-true, firsts))
some_there N ask h t = elim (firsts N) [ Empty e none ↦ absurd (grind (arith, none)) | Begins c e here all ↦ (c, here) ]

-- each number is known, or one of them is the one more
pub known_or_more : (asks : List Ask) (G : Numbers) → HasGivenNumbers asks G → ((n : ℕ) → IsNumber G n → IsTrue (is_known asks n)) ⊎ ((e : ℕ) × IsNumber G e × IsOneMore asks e)
known_or_more asks G given =
    let unknown = λ (n : ℕ). not (is_known asks n) in
    grind (arith, cases_Bool (list_any unknown (keys G)), any_in unknown, found_in unknown, key_in G, key_is G, given, not-true, true≢false)

-- ---- numbers that meet what is asked

module _ (asks : List Ask) (N : Numbers) (met : AllByRecursion (Meets N) asks) (positive : (n : ℕ) → IsNumber N n → 1 ≤ n) where
  known_in_N : (n : ℕ) → IsTrue (is_known asks n) → IsNumber N n
  known_in_N n s = grind (arith, or_cases, shown_are_numbers, and_parts, found_in, some_there, all_at)

  free_in_N : (n : ℕ) → IsNumber N n → IsFalse (is_denied asks n)
  free_in_N n i = grind (arith, cases_Bool (is_denied asks n), found_in, all_at, nat_tests, and_parts, true≢false, finds, not-true, eqb-true, firsts, ltb-true)

  -- the demand wants a number that is known
  abbrev is_wanted : ℕ → Bool
  is_wanted n = is_known asks n && wants (demand asks) n

  -- where no number is known that is wanted, and one of N is wanted, there is one more
  one_more : (n : ℕ) → IsNumber N n → wants (demand asks) n ≡ true → ((m : ℕ) → IsTrue (is_known asks m) → IsFalse (wants (demand asks) m)) → (e : ℕ) × IsOneMore asks e
  one_more n i t needed = grind (arith, first_free (is_denied asks) 1 n (positive n i) (free_in_N n i))

  -- where N has a number that is wanted, one is given
  given_wanted : (n : ℕ) → IsNumber N n → wants (demand asks) n ≡ true → (k : ℕ) × IsGivenNumber asks k × (wants (demand asks) k ≡ true)
  given_wanted n i t =
      elim (cases_Bool (list_any is_wanted (keys N))) [
        | inl some ↦ (let f = found_in is_wanted (keys N) some in let p = and_parts (is_known asks f.0) (wants (demand asks) f.0) f.2 in (f.0, inl p.0, p.1))
        | inr none ↦
            let more = one_more n i t (λ m s. grind (arith, any_in is_wanted m (keys N) (key_in N m (known_in_N m s)), true≢false)) in
            (more.0, inr more.1, more.1.wanted)
      ]

  -- given numbers that are wanted are one, where those of N are
  one_wanted : ((a b : ℕ) → IsNumber N a → IsNumber N b → wants (demand asks) a ≡ true → wants (demand asks) b ≡ true → a ≡ b)
      → (m n : ℕ) → IsGivenNumber asks m → IsGivenNumber asks n → wants (demand asks) m ≡ true → wants (demand asks) n ≡ true → m ≡ n
  one_wanted one m n s t a b = grind (arith, one m n, known_in_N m, known_in_N n, true≢false)

  -- the given numbers meet the demand
  demand_given : (d : Demand) → demand asks ≡ d → MeetsDemand d (IsNumber N) → MeetsDemand d (IsGivenNumber asks)
  demand_given d h i = grind (arith, given_wanted, one_wanted, ltb-true, lt-ltb, shown_known, second_shown)

  replaced_in_N : (G : Numbers) → HasGivenNumbers asks G → (d c : ℕ) → IsOneMore asks d → IsNumber N c → (n : ℕ) → IsNumber (insert (remove G d) c []) n → IsNumber N n
  replaced_in_N G given d c x here n i = grind (arith, get-insert nat_cmp_total (remove G d) c [] n, get-remove nat_cmp_total G d n, known_in_N)

  -- there are no more given numbers than N's
  pub as_few : (G : Numbers) → HasGivenNumbers asks G → len G ≤ len N
  as_few G given = elim (known_or_more asks G given) [
    | inl known ↦ len_le nat_cmp_total G N (λ n i. known_in_N n (known n i))
    | inr (e, there, x) ↦
        let c = wanted_there (IsNumber N) (demand asks) e (demand_of N asks met) x.wanted in
        grind (arith, len_replaced G e c.0 there, given c.0, true≢false, first_free_once, len_le nat_cmp_total (insert (remove G e) c.0 []) N, replaced_in_N G given e c.0 x c.1)
  ]

  -- and so what is asked stands together
  pub asks_stand : AsksStand asks
  asks_stand = grind (arith, all_from, possible_in, all_at, free_in_N, known_in_N, demand_given, demand_of, as_few)
