-- The numbers that are given and aren't shown, by what is kept of the group.
use Rattle.std.proofs.Common.{◌≡◌, ℕ, zero, suc, ◌+◌, ◌^◌, ◌<◌, ◌≤◌, Bool, true, false, not, cond, ◌&&◌, ◌||◌, ◌==◌, IsTrue, List, length, Option, None, Some}
use Rattle.std.proofs.{Common.{refl, sym, arith, []}, lemmas.Bool.{true≢false, and_from, and_parts, or_right, or_cases, eq-eqb, eqb-true, false_from_ne_true}}
use Rattle.std.{proofs.lemmas.Bool.Decides.{nat_tests}, specs.{List.{list_any}, Option.{IfSome}, Prelude.{MatchOption, IsFalse}}}
use Rattle.nntp_intervals.specs.Inner.Intervals.{holds, IsLeastFree, IsFullFrom}
use Rattle.nntp_numbers.proofs.{HullOfMarks.{is_known_by, some_is, stands_by_hull, between_ends, ends_known}, MoreAsks.{one_found, found_some, free_of_all}}
use Rattle.nntp_numbers.{proofs.NumberSets.{one_has}, specs.Inner.{Part.{ends_of, is_end_of}, Summary.{Summary, IsSummary, AreBounded, has, PassSoMany}}}
use Rattle.nntp_numbers.specs.Inner.{Summary.{FirstFreeBelow}, Unseen.{one_more_in, known_ends_in, unseen_beside, unseen_in, unseen_high_beside}}
use Rattle.nntp_numbers.specs.{Inner.Unseen.{unseen_high_in}, declared.{ends.Ends.{Ends}, shown.HowMany.{HowMany, TheVariants.{Absent}}}}
use Rattle.nntp_said.specs.Asks.{Ask}
use Rattle.nntp_theory.proofs.GivenNumbers.{MetNumbersStand.{shown_known, wants_less}, FirstFreeNumber.{free_is, free_none, first_free_once}}
use Rattle.nntp_theory.{proofs.Members.{any_in, found_in}, specs.Inner.{OneMore.{is_demanding, free, if_wanted, all_numbers}, Unseen.{AreUnseen}}}
use Rattle.nntp_theory.specs.{Inner.Together.{AsksStand}, Given.{is_shown, demand, wants, says_some, IsOneMore, IsGivenNumber, is_known}}

-- ---- the first free number

-- what is found is among the numbers that are searched
free_within : (taken : ℕ → Bool) (k n j : ℕ) → free taken k n ≡ Some j → j < n + k
unfolding free
free_within taken zero n j e = cc
free_within taken (suc k) n j e = grind (arith, free_within taken k (n + 1) j)

-- what is found is the first below 2^64, if there is one
pub first_free : (denied : ℕ → Bool) → FirstFreeBelow denied (free denied all_numbers 1)
unfolding all_numbers
first_free denied = grind (arith, free_none denied all_numbers 1, free_within denied all_numbers 1, free_is denied all_numbers 1)

-- ---- what the code finds

-- what is kept, as the code has it, and how many of the numbers that are shown the demand wants
module _ (s v : Summary) (view : v ≡ s) (w : HowMany) (found : PassSoMany (λ n. has v.shown n && wants v.demand n) w) where
  -- where a number is shown that is wanted
  pub met : (w ≡ Absent → ⊥) → None ≡ one_more_in s
  met some = grind (arith, and_parts, any_in, found_in, nat_tests)

  -- or else what is first of those that aren't denied
  pub first_wanted : w ≡ Absent → (o : Option ℕ) → MatchOption o (IsFullFrom v.denied 1) (IsLeastFree v.denied 1)
      → (first : Option ℕ) → o ≡ first → IfSome first (λ n. n < 2 ^ 64) → if_wanted v.demand first ≡ one_more_in s
  first_wanted none o least first is small = grind (arith, first_free_once, first_free (holds v.denied), false_from_ne_true, found_in, true≢false, and_from, one_has)

-- ---- what is read off

module _ (s : Summary) (asks : List Ask) (sum : IsSummary s asks) (bounded : AreBounded asks) where
  -- where no number is known that is wanted unless one is shown, the number is the one more, and there is none where there is none
  pub one_more_is : (list_any (wants s.demand) s.shown ≡ false → (n : ℕ) → IsTrue (is_known asks n) → IsFalse (wants (demand asks) n))
      → MatchOption (one_more_in s) ((n : ℕ) → IsOneMore asks n → ⊥) (IsOneMore asks)
  one_more_is needed = grind (arith, free_of_all sum.denied bounded, first_free (holds s.denied), found_in (wants s.demand), shown_known, one_has, true≢false, first_free_once, false_from_ne_true)

  -- the strict marks that are kept, where there is a number
  pub ends_kept : (e : Ends) → known_ends_in s ≡ Some e → (list_any says_some asks ≡ true) × (ends_of asks ≡ Some e)
  ends_kept e is = grind (arith, some_is asks (not (length s.shown == 0) || is_demanding s.demand), one_found s.shown [], found_some s.shown [], sum.shown, or_right)

  -- what is known by the hull is shown, or one of these
  pub hull_is : (n : ℕ) → is_known_by asks n ≡ (is_shown asks n || is_end_of (known_ends_in s) n)
  hull_is n = grind (arith, some_is asks (not (length s.shown == 0) || is_demanding s.demand), one_found s.shown [], found_some s.shown [], sum.shown, or_right)

  module _ (stand : AsksStand asks) where
    -- ---- with strict marks

    module _ (e : Ends) (is : known_ends_in s ≡ Some e) where
      -- so each given number is known, and between them
      of_given : (n : ℕ) → IsGivenNumber asks n → IsTrue (is_known asks n) × (e.low ≤ n) × (n ≤ e.high)
      of_given n g = grind (arith, between_ends, stand.not_denied n, wants_less (demand asks) n e.low, ends_known asks e (ends_kept e is).1 (ends_kept e is).0)

      -- the low one, where it isn't shown; and the high one, where it isn't shown, and isn't the low one
      by_ends : (a : Bool) → is_shown asks e.low ≡ a → (b : Bool) → (e.high == e.low) ≡ b → (c : Bool) → is_shown asks e.high ≡ c
          → AreUnseen asks (cond a None (Some e.low)) (cond b None (cond c None (Some e.high)))
      by_ends a at b bt c ct = grind (arith, or_cases, of_given, eqb-true, shown_known, ends_kept, ends_known, true≢false, eq-eqb, stands_by_hull, hull_is)

    -- what is read off is what is given beside what is shown
    pub are_unseen : AreUnseen asks (unseen_in s) (unseen_high_in s)
    are_unseen = by (known_ends_in s) refl
      where
        by : (o : Option Ends) → known_ends_in s ≡ o → AreUnseen asks (unseen_beside o s) (unseen_high_beside o s.shown)
        by None is =
            let same : (n : ℕ) → is_known asks n ≡ is_shown asks n = λ n. grind (arith, stands_by_hull asks stand n, hull_is n) in
            grind (arith, one_more_is (λ none n k. grind (arith, false_from_ne_true, true≢false, any_in (wants s.demand) n s.shown, found_in, nat_tests, sum.shown n, same n, sum.demand)))
        by (Some e) is = by_ends e is (has s.shown e.low) (sym (sum.shown e.low)) (e.high == e.low) refl (has s.shown e.high) (sym (sum.shown e.high))
