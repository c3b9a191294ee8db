-- Whether each part of what is asked of a group stands can be decided, where there are the given numbers.
use Rattle.std.proofs.{Common.{ℕ, ◌||◌, ◌==◌, ◌⊎◌, IsTrue, List, inl, inr, arith}, lemmas.Bool.{cases_Bool, eqb-true, eq-eqb, leb-true, le-leb, or_cases}}
use Rattle.std.{proofs.lemmas.Bool.{or_left, or_right, cases_lt}, specs.{Prelude.{not, nat_le, IsFalse}, List.{AllByRecursion, list_all}, Cmp.{nat_cmp_total}}}
use Rattle.std.specs.FinMap.{keys, contains_key-keys, nat_cmp-IsAntisymmetric}
use Rattle.nntp_article.specs.Session.Spool.{Numbers, IsNumber}
use Rattle.nntp_said.{proofs.FiniteMapsDecided.{Dec, dec_all, each_key, passes, fails}, specs.Asks.{Ask}}
use Rattle.nntp_theory.specs.{declared.demand.Demand.{Demand, TheVariants.{OnlyOne, SecondIs}}, Given.{demand, is_known, is_denied, IsGivenNumber}}
use Rattle.nntp_theory.{specs.{Given.{HasGivenNumbers}, Together.{MeetsDemand, IsFewFor}, Conflict.{AreTooMany}}, proofs.Members.{all_at, all_from}}
use Rattle.nntp_theory.proofs.GivenNumbers.{MetNumbersStand.{Empty, Begins, firsts}, CountOfGivenNumbers.{as_many_given}}

-- whether the numbers meet a demand
dec_demand : (N : Numbers) (d : Demand) → Dec (MeetsDemand d (IsNumber N))
dec_demand N OnlyOne = elim (firsts N) [
  | Empty e none ↦ inr (λ h. none h.0 h.1)
  | Begins c e here all ↦ grind (arith, each_key nat_cmp_total nat_cmp-IsAntisymmetric (λ m. m == c) N, eqb-true, eq-eqb)
]
dec_demand N (SecondIs k) = elim (firsts N) [
  | Empty e none ↦ inr (λ h. none k h.0)
  | Begins c e here all ↦
      grind (arith, cases_lt c k, each_key nat_cmp_total nat_cmp-IsAntisymmetric (λ m. nat_le k m || m == c) N, or_cases, leb-true, eqb-true, or_left, or_right, eq-eqb, le-leb)
]
dec_demand N d = grind (arith, firsts N)

-- ---- each part of what is asked

module _ (asks : List Ask) (N : Numbers) (given : HasGivenNumbers asks N) where
  -- a known number is denied, or none is
  pub denied_or_not : ((n : ℕ) × IsTrue (is_known asks n) × IsTrue (is_denied asks n)) ⊎ ((n : ℕ) → IsTrue (is_known asks n) → IsFalse (is_denied asks n))
  denied_or_not = grind (arith, cases_Bool (list_all (λ n. not (is_denied asks n)) (keys N)), passes, nat_cmp_total, nat_cmp-IsAntisymmetric, contains_key-keys, fails)

  -- the given numbers are more than is estimated, or they aren't
  pub too_many_or_not : AreTooMany asks ⊎ ((M : Numbers) → HasGivenNumbers asks M → AllByRecursion (IsFewFor M) asks)
  too_many_or_not = elim (dec_all (IsFewFor N) (λ ask. grind arith) asks) [
    | inl few ↦ inr (λ M g. all_from (IsFewFor M) asks (λ ask i. grind (arith, as_many_given asks M N g given, all_at (IsFewFor N) ask asks few i)))
    | inr many ↦ inl (N, given, many)
  ]

  -- they don't meet the demand, or do
  pub unmet_or_met : (MeetsDemand (demand asks) (IsGivenNumber asks) → ⊥) ⊎ MeetsDemand (demand asks) (IsGivenNumber asks)
  unmet_or_met = grind (arith, dec_demand N (demand asks))
