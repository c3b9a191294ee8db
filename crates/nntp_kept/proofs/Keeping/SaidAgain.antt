-- What was said before is said again: all stands together as before, and what is kept is right still.
use Rattle.nntp_kept.proofs.Base.{◌≡◌, ℕ, ◌^◌, ◌<◌, true, IsTrue, List, ◌++◌, Option, None, Some, is_some, MatchOption, inl, inr, refl, sym, ap, subst, ◌∙◌}
use Rattle.nntp_kept.proofs.Base.{arith, or-false, true≢false, and_parts, eqb-true, eq-eqb, cases_lt, leb-true, false_from_ne_true, ◌↔◌, list_any}
use Rattle.nntp_kept.proofs.Base.{nat_list_cmp_total, get, octet_keys, insert-same, Id, Name, Ask, Fact, AsksStand, same_itself, all_both, any_in, Says}
use Rattle.nntp_kept.proofs.Base.{IsSummary, AreBounded, OfGroup, Saying, MaySay, KeptGroup, Told, told, AreKept, Agree, IsShownAt, MayShow, ids_with}
use Rattle.nntp_kept.proofs.Base.{places_with, IsThereAlready, or_from, ltb-true, len, holds, is_denied, demand, IsGivenNumber, is_possible, first_found}
use Rattle.nntp_kept.{proofs.Keeping.KeptGroups.{Groups, kept_of, part_kept, bounded_more, agree_kept, same_id}, specs.Inner.Kept.{IsKeptGroup, AreKeptWith}}
use Rattle.nntp_kept.specs.Inner.KeptSaying.{HasSaid}
use Rattle.nntp_numbers.specs.Inner.{Part.{Said, only_has, part_denies, is_one_of, join_ends}, Summary.{Summary, has, AddsNothing}}
use Rattle.nntp_numbers.proofs.{MoreAsks.{are_possible, added}, HullOfMarks.{apart_by_hull, stands_by_hull, said_some, shown_says, demand_says, some_is}}
use Rattle.nntp_numbers.proofs.{AsksSettled.{ArePossible}, Implied.{Implies}}
use Rattle.nntp_theory.{specs.Given.{says_some, join}, proofs.{Together.FewEnough.{few_for, within_all}, GivenNumbers.GivenNumbersMeet.{same_demand}}}

-- ---- asks of which the same is kept

module _ (s : Summary) (asks others : List Ask) (sum : IsSummary s asks) (same : IsSummary s others) where
  demand_is : demand others ≡ demand asks
  demand_is = sym same.demand ∙ sum.demand

  same_some : list_any says_some others ≡ list_any says_some asks
  same_some = grind (arith, some_is, said_some, shown_says, demand_says)

  module _ (bounded : AreBounded asks) (others_bounded : AreBounded others) where
    same_denied : (n : ℕ) → is_denied others n ≡ is_denied asks n
    same_denied n = elim (cases_lt n (2 ^ 64)) [ inl lt ↦ sym (same.denied n lt) ∙ sum.denied n lt | inr ge ↦ others_bounded n ge ∙ sym (bounded n ge) ]

    module _ (stand : AsksStand asks) where
      given_alike : (n : ℕ) → IsGivenNumber others n ↔ IsGivenNumber asks n
      given_alike n = grind (arith, apart_by_hull, stands_by_hull, same_some, demand_is, same_denied)

      -- they stand together alike
      stands_alike : ArePossible others → AsksStand others
      stands_alike possible = record {
        possible = possible;
        not_denied = λ n g. same_denied n ∙ stand.not_denied n ((given_alike n).0 g);
        demand_met = grind (arith, demand_is, same_demand, given_alike);
        few = λ N given.
            few_for N others (sym (same.estimate (len N)) ∙ sum.estimate (len N)
            ∙ within_all N asks (stand.few N (λ n. (λ i. (given_alike n).0 ((given n).0 i), λ g. (given n).1 ((given_alike n).1 g)))));
      }

-- ---- what was said before

-- what is said was said before, as it shows, denies, estimates and demands no more than what is kept
record WasSaid (s : Summary) (p : Said) : Type 0 where
  possible : p.possible ≡ true
  shown : (n : ℕ) → is_one_of p.numbers n ≡ true → has s.shown n ≡ true
  denied : (n : ℕ) → n < 2 ^ 64 → part_denies p n ≡ true → holds s.denied n ≡ true
  estimate : Implies s.estimate p.estimate
  ends : join_ends s.ends p.ends ≡ s.ends
  demand : join s.demand p.demand ≡ s.demand

module _ (s : Summary) (p : Said) (asks more : List Ask) (was : WasSaid s p) (sum : IsSummary s asks) (says : Says p more) where
  -- what is kept is right still
  kept_still : IsSummary s (asks ++ more)
  kept_still = added s s p s refl
      (λ n. grind (arith, was.shown n)) (λ up. up) (λ regular n small. grind (arith, was.denied n small)) (λ n. grind (arith, was.estimate n))
      (sym was.ends) (sym was.demand) asks more sum says

  -- all stands together still
  stands_still : AreBounded asks → AsksStand asks → AsksStand (asks ++ more)
  stands_still bounded stand =
      stands_alike s asks (asks ++ more) sum kept_still bounded (bounded_more asks more bounded) stand
      (all_both (λ ask. IsTrue (is_possible ask)) asks more stand.possible (are_possible more (sym says.possibly ∙ was.possible)))

-- a number that is there is said to be there
there_was : (s : Summary) (k : ℕ) → has s.shown k ≡ true → WasSaid s (only_has k)
there_was s k there = grind (arith, eqb-true, or-false, true≢false, or_from, false_from_ne_true, ltb-true, and_parts, leb-true, eq-eqb)

-- ---- of an id

-- so does one that is said to be at the number at which it is kept
pub there_before : (facts : List Fact) (s : Saying) (asks : List Ask) (groups : Groups) (g : OfGroup) → s.group ≡ Some g → AreKept (told facts) groups → MaySay facts s asks
    → MatchOption (get groups g.name) ⊥ (λ k. HasSaid k g) → IsThereAlready facts s.article
there_before facts s asks groups g is kept may said = grind (arith, first_found, any_in, same_itself, kept_of)

-- ---- of a group

module _ (tells : Name → Told) (groups : Groups) (name : Name) (g : KeptGroup) (asks : List Ask) (kept : AreKept tells groups) (is : get groups name ≡ Some g) where
  was : IsKeptGroup (tells name) g
  was = kept_of tells groups name (Some g) is kept

  -- so of what is said of the group
  module _ (p : OfGroup) (says : Says p.numbers asks) where
    -- what was said before, where this is the id
    abbrev WasSaidOf : Option (ℕ × Id) → Type 0
    WasSaidOf id = MatchOption id (AddsNothing g.numbers p.numbers) (λ e. (p.numbers ≡ only_has e.0) × (get g.ids e.0 ≡ Some e.1))

    -- all of it was, and the id, if one is said, is at the number already
    all_was : (id : Option (ℕ × Id)) → Agree (tells name).ids (tells name).places id → IsShownAt (tells name) id → WasSaidOf id
        → WasSaid g.numbers p.numbers × MayShow (tells name) id × ((g.ids ≡ ids_with g.ids id) × (g.places ≡ places_with g.places id))
    all_was None each shown said = (grind (arith, said), tt, (refl, refl))
    all_was (Some (n, id)) each shown said = let at = said.1 in (
      grind (arith, there_was, was, said.0, at, shown),
      grind (arith, was, at, each),
      same_id g n id true (ap is_some at) refl (grind (arith, at)) (agree_kept (tells name) g (Some (n, id)) was each),
    )

    pub joins_again : Agree (tells name).ids (tells name).places p.id → IsShownAt (tells name) p.id → HasSaid g p → AsksStand (tells name).asks
        → AsksStand ((tells name).asks ++ asks) × MayShow (tells name) p.id
    joins_again each shown said stand = let w = all_was p.id each shown said in (stands_still g.numbers p.numbers (tells name).asks asks w.0 was.numbers says was.bounded stand, w.1)

    pub kept_again : Agree (tells name).ids (tells name).places p.id → IsShownAt (tells name) p.id → HasSaid g p → AreKeptWith tells name asks p.id groups
    kept_again each shown said after changes =
        let w = all_was p.id each shown said in
        subst (AreKept after) (insert-same nat_list_cmp_total octet_keys groups name g is)
        (part_kept tells after groups name (Some g) g asks p.id kept is (λ e. absurd (true≢false (sym was.shown ∙ e))) w.1 changes
        (kept_still g.numbers p.numbers (tells name).asks asks w.0 was.numbers says) w.2.0 w.2.1)
