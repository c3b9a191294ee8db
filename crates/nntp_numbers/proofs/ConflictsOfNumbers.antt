-- The parts of what is asked of a group, each by itself: a known number that is denied, too many given numbers, an unmet demand.
use Rattle.std.proofs.Common.{◌≡◌, ℕ, ◌+◌, Bool, true, false, not, cond, ◌&&◌, ◌||◌, IsTrue, List, [], Option, None, is_some, refl, sym, ap, ◌∙◌, arith}
use Rattle.std.{proofs.lemmas.Bool.{true≢false, or_cases, eqb-true}, specs.Prelude.{MatchOption, ◌↔◌}}
use Rattle.nntp_numbers.proofs.{AsksSettled.{no_more, met_by, met_if, AreGiven, few_given, shown_given, more_given}, HullOfMarks.{is_known_by, ends_known}}
use Rattle.nntp_numbers.proofs.{HullOfMarks.{apart_known, apart_by_hull}, Tallies.{same_tally}, UnseenNumbers.{one_more_is, ends_kept, hull_is}}
use Rattle.nntp_numbers.specs.Inner.{Part.{is_end_of}, Summary.{Summary, IsSummary, AreBounded, has, PassSoMany, AreCounted, IsTally, is_met, DeniedAmong}}
use Rattle.nntp_numbers.specs.{Inner.{Summary.{shown_after}, Unseen.{known_ends_in, one_more_in}}, declared.{ends.Ends.{Ends}, shown.HowMany.{HowMany}}}
use Rattle.nntp_said.specs.Asks.{Ask}
use Rattle.nntp_theory.{proofs.{GivenNumbers.CountOfGivenNumbers.{more_meets, known_meet}, Together.FewEnough.{within_all}}, specs.Conflict.{AreTooMany}}
use Rattle.nntp_theory.specs.{Given.{is_known, is_denied, demand, wants, IsOneMore, IsGivenNumber}, Inner.{Conflict.{AreApart}, Estimates.{is_within_all}}}
use Rattle.nntp_theory.specs.Together.{MeetsDemand}

-- ---- known numbers that are denied

module _ (s : Summary) (asks : List Ask) (sum : IsSummary s asks) (bounded : AreBounded asks) where
  -- where no shown number is denied, it is the strict mark that is, or no known number is
  pub end_or_apart : DeniedAmong (has s.shown) s.denied None → (found : Option ℕ) → DeniedAmong (is_end_of (known_ends_in s)) s.denied found
      → MatchOption found (AreApart asks) (λ n. IsTrue (is_known asks n) × IsTrue (is_denied asks n))
  end_or_apart shown found at = search (arith, ends_kept s asks sum bounded, ends_known asks, eqb-true, apart_by_hull, is_known_by, or_cases, hull_is)

  -- ---- what is counted

  -- where no known number is denied, the known ones are counted
  pub known_tally : AreApart asks → (v : Summary) → v ≡ s → (ends : Option Ends) → ends ≡ known_ends_in s → (w : HowMany) (c : ℕ)
      → IsTally (λ n. shown_after v.shown [] n || is_end_of ends n) v.demand w c → IsTally (is_known asks) (demand asks) w c
  known_tally apart v view ends at w c t =
      let is : (n : ℕ) → (shown_after v.shown [] n || is_end_of ends n) ≡ is_known asks n = λ n. grind (arith, hull_is s asks sum bounded n, apart_known asks apart n, sum.shown n) in
      grind (arith, same_tally _ (is_known asks) is v.demand w c t, sum.demand)

  -- where none of them is wanted, what is found is the one more
  pub more_found : ((n : ℕ) → (is_known asks n && wants (demand asks) n) ≡ false) → (b : Bool) → b ≡ is_some (one_more_in s) → IsTrue b ↔ ((n : ℕ) × IsOneMore asks n)
  more_found none b is = grind (arith, one_more_is s asks sum bounded, none)

-- ---- whether there are too many

-- there are, where these are not within the estimates
too_many : (asks : List Ask) (count : ℕ) → AreGiven asks count → (b : Bool) → b ≡ is_within_all asks count → IsTrue (not b) ↔ AreTooMany asks
too_many asks count given true few = (λ t. absurd (true≢false (sym t)), λ x. absurd (x.2 (few_given asks count given (sym few) x.0 x.1)))
too_many asks count (N, given, is) false few = (λ t. (N, given, λ h. true≢false (sym (within_all N asks h) ∙ ap (is_within_all asks) is ∙ sym few)), λ x. refl)

-- the given numbers are those that are known, and one more where there is one
pub too_many_if : (asks : List Ask) (c : ℕ) → AreCounted (is_known asks) c → (one : Bool) → IsTrue one ↔ ((n : ℕ) × IsOneMore asks n)
    → (more : ℕ) → more ≡ cond one 1 0 → (b : Bool) → b ≡ is_within_all asks (c + more) → IsTrue (not b) ↔ AreTooMany asks
too_many_if asks c counted true has m is b few = too_many asks (c + 1) (more_given asks c (has.0 refl).0 counted (has.0 refl).1) b (few ∙ ap (is_within_all asks) (omega arith))
too_many_if asks c counted false has m is b few = too_many asks c (shown_given asks c counted (λ n x. true≢false (sym (has.1 (n, x))))) b (few ∙ ap (is_within_all asks) (omega arith))

-- ---- whether they meet the demand

module _ (asks : List Ask) (found : HowMany) (so_many : PassSoMany (λ n. is_known asks n && wants (demand asks) n) found)
    (s v : Summary) (view : v ≡ s) (demanded : s.demand ≡ demand asks) (met : Bool) (is : met ≡ is_met v.demand found) where
  -- those that are known do
  pub known_met : met ≡ true → MeetsDemand (demand asks) (IsGivenNumber asks)
  known_met t = grind (arith, met_if asks (demand asks) refl found so_many, known_meet, no_more)

  -- or else exactly if there is one more
  pub more_met : met ≡ false → (b : Bool) → IsTrue b ↔ ((n : ℕ) × IsOneMore asks n) → IsTrue b ↔ MeetsDemand (demand asks) (IsGivenNumber asks)
  more_met unmet b more = grind (arith, more_meets, met_by, true≢false)
