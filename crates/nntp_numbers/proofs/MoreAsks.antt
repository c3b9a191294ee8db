-- More asks: what is kept and what they say tell whether all stands together.
use Rattle.std.proofs.Common.{◌≡◌, ℕ, ◌^◌, ◌<◌, Bool, true, false, not, ◌&&◌, ◌||◌, ◌==◌, IsTrue, List, [], ◌∷◌, ◌++◌, length, Option, inl, inr, refl, sym, ap}
use Rattle.std.proofs.{Common.{subst, ◌∙◌, arith}, lemmas.Bool.{true≢false, and_parts, and_from, or_left, or_right, or_cases, cases_lt, Decides.{nat_tests}}}
use Rattle.std.proofs.lemmas.{List.{length-map, Folds.{list_any-append, list_all-append}}, Map.{Keys.{IsDistinct-from_sorted}, Lookups.{exact_unsigned}}}
use Rattle.std.{proofs.lemmas.Map.{Made.{length-from_same_keys}, Views.{tells_apart}}, specs.{Cmp.{nat_cmp_total, eq_by_cmp_equiv, both_ways}, FinMap.{len}}}
use Rattle.std.specs.{FinMap.{keys, entries, entries_sorted, len-entries, nat_cmp-IsAntisymmetric, contains_key-keys}, List.{list_any, list_all}}
use Rattle.std.specs.{List.Sorted.{IsStrictlySortedBy}, Ordering.{nat_cmp}, Prelude.{◌↔◌, IsFalse, ◌⊎◌, ◌≤◌}}
use Rattle.nntp_intervals.specs.Inner.Intervals.{holds}
use Rattle.nntp_article.specs.Session.Spool.{Numbers, IsNumber}
use Rattle.nntp_numbers.proofs.{AsksSettled.{settled, ArePossible}, HullOfMarks.{is_known_by, ends_append, some_is, apart_by_hull, stands_by_hull}}
use Rattle.nntp_numbers.specs.Inner.{Part.{join_ends, is_end_of, is_one_of, Said, IsRegular, Says}, Summary.{IsTally, Summary, has, IsSummary, AreBounded}}
use Rattle.nntp_numbers.specs.Inner.Summary.{shown_after, says_some_after, ends_after, known_after, denied_after, PassSoMany, FirstFree, is_settled, AreCounted}
use Rattle.nntp_numbers.specs.{Inner.Summary.{FirstFreeBelow, AgreesWith, AreOpen, LooksAfter}, declared.{ends.Ends.{Ends}, shown.HowMany.{HowMany}}}
use Rattle.nntp_said.specs.Asks.{Ask}
use Rattle.nntp_theory.proofs.{GivenNumbers.{JoinedDemands.{demand_append}, MetNumbersStand.{key_in, key_is, shown_known}}, Maps.{key_map, in_key_map}}
use Rattle.nntp_theory.{proofs.{Maps.{of_key_map, sorted_keys}, Members.{any_in, found_in, all_both, all_back}}, specs.Given.{shows, denies, is_shown}}
use Rattle.nntp_theory.specs.{Given.{is_denied, says_some, demand, join, wants, is_known}, Inner.{Estimates.{is_within}, OneMore.{is_demanding}}}
use Rattle.nntp_theory.specs.{Inner.Together.{AsksStand}, Together.{is_possible}, declared.demand.Demand.{Demand}}

-- ---- maps of ascending numbers

pub map_of : List ℕ → Numbers
map_of ns = key_map nat_cmp nat_cmp_total nat_cmp-IsAntisymmetric ns

-- its numbers are these
pub in_map_of : (ns : List ℕ) (n : ℕ) → IsNumber (map_of ns) n ↔ IsTrue (has ns n)
unfolding map_of
in_map_of ns n = grind (arith, any_in, of_key_map, nat_cmp-IsAntisymmetric, key_in, map_of, found_in, key_is, in_key_map, tells_apart, exact_unsigned)

-- as many
pub len_map_of : (ns : List ℕ) → IsStrictlySortedBy nat_cmp ns → len (map_of ns) ≡ length ns
len_map_of ns up =
    let same = length-from_same_keys (eq_by_cmp_equiv nat_cmp_total) (keys (map_of ns)) ns in
    let sorted = sorted_keys nat_cmp (entries (map_of ns)) (entries_sorted (map_of ns)) in
    grind (arith, same, IsDistinct-from_sorted nat_cmp, sorted, contains_key-keys (map_of ns), both_ways, in_map_of ns, len-entries, length-map)

-- ---- more asks

pub are_possible : (asks : List Ask) → list_all is_possible asks ≡ true → ArePossible asks
are_possible [] t = tt
are_possible (ask ∷ asks) t = grind (arith, and_parts, are_possible asks)

all_possible : (asks : List Ask) → ArePossible asks → list_all is_possible asks ≡ true
all_possible [] h = refl
all_possible (ask ∷ asks) h = and_from (is_possible ask) (list_all is_possible asks) h.0 (all_possible asks h.1)

-- ---- whether there is a number

-- one of the numbers is found where there are some, or what is so else
pub one_found : (ns ms : List ℕ) (d : Bool) → (not (length ns == 0) || not (length ms == 0) || d) ≡ true → ((n : ℕ) × ((has ns n || is_one_of ms n) ≡ true)) ⊎ (d ≡ true)
one_found [] [] d t = inr t
one_found (n ∷ ns) ms d t = inl (n, grind (arith, nat_tests))
one_found [] (m ∷ ms) d t = inl (m, grind (arith, nat_tests))

-- and back
pub found_some : (ns ms : List ℕ) (n : ℕ) → (has ns n || is_one_of ms n) ≡ true → (not (length ns == 0) || not (length ms == 0)) ≡ true
found_some [] [] n t = cc
found_some ns ms n t = grind (arith, nat_tests)

-- the first free number below 2^64 is the first one, where none is free from there on
pub free_of_all : {taken denied : ℕ → Bool} → ((n : ℕ) → n < 2 ^ 64 → taken n ≡ denied n) → ((n : ℕ) → 2 ^ 64 ≤ n → denied n ≡ true) → (f : Option ℕ) → FirstFreeBelow taken f → FirstFree denied f
free_of_all same full f taken = grind (arith, cases_lt)

module _ (s : Summary) (p : Said) (asks more : List Ask) (sum : IsSummary s asks) (says : Says p more) where
  shown_grows : (n : ℕ) → shown_after s.shown p.numbers n ≡ is_shown (asks ++ more) n
  shown_grows n = (λ i. sum.shown n i || says.showing n i) ∙ sym (list_any-append (λ ask. shows ask n) asks more)

  denied_grows : (n : ℕ) → n < 2 ^ 64 → denied_after s.denied p n ≡ is_denied (asks ++ more) n
  denied_grows n small = (λ i. sum.denied n small i || says.denying n small i) ∙ sym (list_any-append (λ ask. denies ask n) asks more)

  demand_grows : join s.demand p.demand ≡ demand (asks ++ more)
  demand_grows = (λ i. join (sum.demand i) (says.demanding i)) ∙ sym (demand_append asks more)

  -- whether it is said that there is a number
  some_grows : says_some_after s p ≡ list_any says_some (asks ++ more)
  some_grows = some_is (asks ++ more) (says_some_after s p)
      (λ t. grind (arith, one_found s.shown p.numbers (is_demanding (join s.demand p.demand)) t, shown_grows, demand_grows))
      (λ n t. grind (arith, or_left, found_some s.shown p.numbers n, shown_grows n)) (λ d. grind (arith, or_right, demand_grows))

  -- what is known then is known by the hull
  hull_grows : (n : ℕ) → known_after s p n ≡ is_known_by (asks ++ more) n
  hull_grows n = grind (arith, some_grows, shown_grows n, ends_append)

  module _ (bounded : AreBounded (asks ++ more)) where
    -- what is said agrees, and the strict marks are open
    module _ (stand : AsksStand asks) (agrees : AgreesWith s.shown s.denied p) (open_ends : AreOpen s.denied p (ends_after s p)) where
      apart_by : (n : ℕ) → IsTrue (is_known_by (asks ++ more) n) → IsFalse (is_denied (asks ++ more) n)
      apart_by n t = grind (arith, or_cases, nat_tests, shown_known, says.regular.high, hull_grows n, denied_grows n)

      -- all stands together with the asks exactly if the test passes
      settles : (d : Demand) (w : HowMany) (f : Option ℕ) (c : ℕ) (e : Option ℕ) → LooksAfter s p d w f c e → IsTrue (is_settled d w f c e) ↔ AsksStand (asks ++ more)
      settles d w f c e l =
          let known_grows : (n : ℕ) → known_after s p n ≡ is_known (asks ++ more) n = λ n. hull_grows n ∙ sym (apart_by_hull (asks ++ more) apart_by n) in
          settled (asks ++ more) d w f c e (record {
            demanded = l.demanded ∙ demand_grows;
            found = subst {A = ℕ → Bool} (λ known. PassSoMany (λ n. known n && wants d n) w) (λ i n. known_grows n i) l.tally.found;
            free = free_of_all denied_grows bounded f l.free;
            count = subst {A = ℕ → Bool} (λ known. AreCounted known c) (λ i n. known_grows n i) l.tally.count;
            estimate = grind (arith, l.estimate, sum.estimate, says.estimating, list_all-append);
          }) (grind (arith, all_both, are_possible)) (grind (arith, apart_by, apart_by_hull (asks ++ more) apart_by))

    -- and back
    module _ (grown : AsksStand (asks ++ more)) where
      free_then : (n : ℕ) → known_after s p n ≡ true → denied_after s.denied p n ≡ false
      free_then n t = grind (arith, stands_by_hull, hull_grows, cases_lt, denied_grows, true≢false)

      agrees_then : AgreesWith s.shown s.denied p
      agrees_then = record {
        can_be = says.possibly ∙ all_possible more (all_back (λ ask. IsTrue (is_possible ask)) asks more grown.possible);
        before = λ n a. grind (arith, free_then n);
        after = λ n b. grind (arith, free_then n);
      }

-- ---- for the code

-- a value tells by its test whether all stands together with the asks
abbrev pub Tells : Bool → Summary → Said → Type 0
Tells b s p = (asks more : List Ask) → IsSummary s asks → AsksStand asks → AreBounded (asks ++ more) → Says p more → IsTrue b ↔ AsksStand (asks ++ more)

module _ (s v : Summary) (p : Said) (b : Bool) (d : Demand) (ends : Option Ends) (view : v ≡ s) (is_demand : d ≡ join v.demand p.demand)
    (are_ends : d ≡ join s.demand p.demand → ends ≡ ends_after s p) where
  pub joins_then : (w : HowMany) (f : Option ℕ) (c : ℕ) (e : Option ℕ) → b ≡ is_settled d w f c e
      → AgreesWith v.shown v.denied p → AreOpen v.denied p ends → IsTally (λ n. shown_after v.shown p.numbers n || is_end_of ends n) d w c
      → FirstFreeBelow (denied_after v.denied p) f → ((n : ℕ) → is_within e n ≡ (is_within v.estimate n && is_within p.estimate n)) → Tells b s p
  joins_then w f c e is agrees open_ends tally free estimate =
      let at = are_ends (is_demand ∙ ap (λ s. join s.demand p.demand) view) ∙ ap (λ s. ends_after s p) (sym view) in
      let l : LooksAfter v p d w f c e = search (is_demand, subst (λ o. IsTally (λ n. shown_after v.shown p.numbers n || is_end_of o n) d w c) at tally, free, estimate) in
      grind (arith, settles, subst (AreOpen v.denied p) at open_ends)

  pub joins_else : b ≡ false → (AgreesWith v.shown v.denied p → AreOpen v.denied p ends → ⊥) → Tells b s p
  joins_else is not_open = grind (arith, true≢false, agrees_then, free_then, or_right)

-- what is kept with the part is kept of all with the asks
pub added : (s v : Summary) (p : Said) (t : Summary) → v ≡ s → ((n : ℕ) → has t.shown n ≡ shown_after v.shown p.numbers n) → (IsStrictlySortedBy nat_cmp v.shown → IsStrictlySortedBy nat_cmp t.shown)
    → (IsRegular p → (n : ℕ) → n < 2 ^ 64 → holds t.denied n ≡ denied_after v.denied p n) → ((n : ℕ) → is_within t.estimate n ≡ (is_within v.estimate n && is_within p.estimate n))
    → t.ends ≡ join_ends v.ends p.ends → t.demand ≡ join v.demand p.demand → (asks more : List Ask) → IsSummary s asks → Says p more → IsSummary t (asks ++ more)
added s v p t view shown up denied estimate ends demand = grind (arith, shown_grows, denied_grows, demand_grows, ends_append, list_all-append)

-- where nothing is asked, all stands together
pub none_stand : AsksStand []
none_stand = grind arith
