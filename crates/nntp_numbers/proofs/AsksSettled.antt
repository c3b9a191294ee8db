-- Whether what is asked stands together, from what is shown, the first free number, how many there are, and the demand.
use Rattle.std.proofs.Common.{◌≡◌, ◌⊎◌, ℕ, ◌+◌, true, false, ◌&&◌, IsTrue, List, [], Option, None, Some, inl, inr, refl, sym, ap, subst, ◌∙◌, arith}
use Rattle.std.{proofs.lemmas.Bool.{and_parts, and_from, false_from_ne_true, ltb-true, lt-ltb}, specs.{FinMap.{len, insert}, List.{AllByRecursion}}}
use Rattle.std.specs.Prelude.{◌↔◌}
use Rattle.nntp_theory.proofs.GivenNumbers.CountOfGivenNumbers.{known_meet, none_more, one_more_given, one_more_counted, as_many_given, more_meets}
use Rattle.nntp_theory.proofs.{GivenNumbers.MetNumbersStand.{second_shown, shown_known, wanted_there}, Together.FewEnough.{few_for, within_all}}
use Rattle.nntp_theory.specs.{Given.{is_known, is_denied, demand, wants, IsOneMore, IsGivenNumber, HasGivenNumbers}, Inner.Conflict.{AreApart}}
use Rattle.nntp_theory.specs.{Inner.{Estimates.{is_within, is_within_all}, Together.{AsksStand}}, Together.{IsFewFor, is_possible, MeetsDemand}}
use Rattle.nntp_theory.specs.declared.demand.Demand.{Demand, TheVariants.{NoDemand, OnlyOne, SecondIs, Impossible}}
use Rattle.nntp_numbers.specs.{Inner.Summary.{AreCounted, PassSoMany, FirstFree, has_room, is_settled, is_met, Looks}, declared.shown.HowMany.{HowMany}}
use Rattle.nntp_numbers.specs.declared.shown.HowMany.TheVariants.{Absent, Several}
use Rattle.nntp_article.specs.Session.Spool.{Numbers}
use Rattle.nntp_said.specs.Asks.{Ask}

-- ---- the demand

-- each ask can be met
abbrev pub ArePossible : List Ask → Type 0
ArePossible asks = AllByRecursion (λ ask. IsTrue (is_possible ask)) asks

module _ (asks : List Ask) where
  -- what is shown
  abbrev pub Shown : ℕ → Type 0
  Shown n = IsTrue (is_known asks n)

  -- where the shown numbers meet the demand, there is no more
  pub no_more : MeetsDemand (demand asks) Shown → (e : ℕ) → IsOneMore asks e → ⊥
  no_more met e x = grind (arith, wanted_there Shown (demand asks) e met x.wanted, x.needed)

  -- there is a map of what is given, with so many
  abbrev pub AreGiven : ℕ → Type 0
  AreGiven count = (N : Numbers) × HasGivenNumbers asks N × (len N ≡ count)

  -- what is given is as many as is shown
  pub shown_given : (count : ℕ) → AreCounted (is_known asks) count → ((e : ℕ) → IsOneMore asks e → ⊥) → AreGiven count
  shown_given count (M, shown, is) none = (M, none_more asks M shown none, is)

  -- or one more
  pub more_given : (count e : ℕ) → AreCounted (is_known asks) count → IsOneMore asks e → AreGiven (count + 1)
  more_given count e (M, shown, is) x = (insert M e [], one_more_given asks M shown e x, grind (arith, one_more_counted asks M shown e x))

  -- so many are few enough exactly if they are within the estimates
  pub few_given : (count : ℕ) → AreGiven count → IsTrue (is_within_all asks count) → (N : Numbers) → HasGivenNumbers asks N → AllByRecursion (IsFewFor N) asks
  few_given count (M, there, is) few N given = few_for N asks (ap (is_within_all asks) (as_many_given asks N M given there ∙ is) ∙ few)

  within_given : (count : ℕ) → AreGiven count → AsksStand asks → IsTrue (is_within_all asks count)
  within_given count (M, there, is) stand = ap (is_within_all asks) (sym is) ∙ within_all M asks (stand.few M there)

  -- the two ways in which what is asked stands together
  pub data Ways (count : ℕ) : Type 0 where
    ByShown : MeetsDemand (demand asks) Shown → IsTrue (is_within_all asks count) → Ways count
    ByMore : (e : ℕ) → IsOneMore asks e → IsTrue (is_within_all asks (count + 1)) → Ways count

  -- by what is shown, or by one more
  stands : (count : ℕ) → AreCounted (is_known asks) count → ArePossible asks → AreApart asks → Ways count → AsksStand asks
  stands count counted possible apart way = elim way [
    | ByShown met few ↦ by ((known_meet asks (no_more met)).1 met) count (shown_given count counted (no_more met)) few
    | ByMore e x few ↦ by (more_meets asks e x) (count + 1) (more_given count e counted x) few
  ]
    where
      by : MeetsDemand (demand asks) (IsGivenNumber asks) → (count : ℕ) → AreGiven count → IsTrue (is_within_all asks count) → AsksStand asks
      by met count given few = record { possible = possible; not_denied = λ n g. grind (arith, apart n); demand_met = met; few = few_given count given few }

  -- what is given meets the demand by what is shown, or by one more
  pub met_by : MeetsDemand (demand asks) (IsGivenNumber asks) → MeetsDemand (demand asks) Shown ⊎ ((e : ℕ) × IsOneMore asks e)
  met_by = grind arith

  -- so there is no other way
  ways : (count : ℕ) → AreCounted (is_known asks) count → AsksStand asks → Ways count
  ways count counted stand = elim (met_by stand.demand_met) [
    | inl met ↦ ByShown met (within_given count (shown_given count counted (no_more met)) stand)
    | inr x ↦ ByMore x.0 x.1 (within_given (count + 1) (more_given count x.0 counted x.1) stand)
  ]

-- ---- the test

-- where so many are wanted that they meet the demand, they meet it
pub met_if : (asks : List Ask) (d : Demand) → d ≡ demand asks → (w : HowMany) → PassSoMany (λ n. is_known asks n && wants d n) w → is_met d w ≡ true → MeetsDemand d (Shown asks)
met_if asks d is w found t = grind (arith, and_parts, and_from, shown_known, second_shown, ltb-true, lt-ltb)

module _ (asks : List Ask) (c : ℕ) (e : Option ℕ) (within : (n : ℕ) → is_within e n ≡ is_within_all asks n) where
  -- room for one more where nothing is found
  more_of_room : (d : Demand) → d ≡ demand asks → ((n : ℕ) → (is_known asks n && wants d n) ≡ false) → (f : Option ℕ) → FirstFree (is_denied asks) f → IsTrue (has_room d f c e) → Ways asks c
  more_of_room d is none None free t = cc
  more_of_room d is none (Some n) free t = ByMore n (grind (arith, false_from_ne_true, and_from)) (sym (within (c + 1)) ∙ (and_parts (wants d n) (is_within e (c + 1)) t).1)

  module _ (f : Option ℕ) (free : FirstFree (is_denied asks) f) where
    -- the test that passes tells the way
    way : (d : Demand) → d ≡ demand asks → (w : HowMany) → PassSoMany (λ n. is_known asks n && wants d n) w → IsTrue (is_settled d w f c e) → Ways asks c
    way NoDemand is w found t = ByShown (subst (λ d. MeetsDemand d (Shown asks)) is (met_if asks NoDemand is w found refl)) (sym (within c) ∙ t)
    way Impossible is w found t = cc
    way d is Absent found t = more_of_room d is found f free t
    way OnlyOne is Several found t = cc
    way (SecondIs k) is Several found t = cc
    way d is w found t = ByShown (subst (λ d. MeetsDemand d (Shown asks)) is (met_if asks d is w found refl)) (sym (within c) ∙ t)

    -- and the way tells that it passes
    test : (d : Demand) → d ≡ demand asks → (w : HowMany) → PassSoMany (λ n. is_known asks n && wants d n) w → Ways asks c → is_settled d w f c e ≡ true
    test d is w found h = search arith

-- where nothing that is known is denied, and each ask can be met, all stands together exactly if the test passes
pub settled : (asks : List Ask) (d : Demand) (w : HowMany) (f : Option ℕ) (c : ℕ) (e : Option ℕ) → Looks asks d w f c e → ArePossible asks → AreApart asks
    → IsTrue (is_settled d w f c e) ↔ AsksStand asks
settled asks d w f c e looks possible apart = search (arith, stands, way, test, ways)
