-- The given numbers meet what is asked of them, if that stands together; where marks are strict, they are those that are known.
use Rattle.nntp_wire.specs.declared.{marks.Marks.TheVariants.{Strict}, water_marks.WaterMarks.{WaterMarks}}
use Rattle.std.proofs.{Common.{◌≡◌, ℕ, true, false, IsTrue, List, [], ◌∷◌, inl, refl, arith, inr}, lemmas.Bool.{true≢false, false_from_ne_true, eqb-true}}
use Rattle.std.proofs.lemmas.Bool.{ltb-false, eq-eqb, or_cases, or_left, or_right, and_parts, and_from, cases_Bool, or_parts, cases_lt, lt-ltb}
use Rattle.std.{proofs.lemmas.Bool.Decides.{nat_tests}, specs.List.{AllByRecursion, list_any}}
use Rattle.nntp_article.specs.Session.{Spool.{Numbers, IsNumber, Name}, Machine.{is_in_range, is_same}}
use Rattle.nntp_said.specs.{Asks.{Ask, Meets, Estimates, ListsIn, StandsAt}, declared.position.Position.TheVariants.{First}, Facts.{Fact, Asks}}
use Rattle.nntp_theory.specs.Given.{shows, demand_in, demand, IsGivenNumber, HasGivenNumbers, says_some, asks_in, asks_of, is_known, IsOneMore}
use Rattle.nntp_theory.specs.{declared.demand.Demand.{Demand, TheVariants.{NoDemand}}, Together.{is_possible, MeetsDemand, IsFewFor}}
use Rattle.nntp_theory.{specs.Inner.Together.{AsksStand}, proofs.Members.{In, all_at, all_from, any_in, in_contains, each_of, found_in, to_flat, from_flat}}
use Rattle.nntp_theory.proofs.GivenNumbers.MetNumbersStand.{firsts, least_is, listed_in, finds, in_range_back, shown_known, wants_less}
use Rattle.nntp_theory.proofs.Session.NumbersOfShownGroups.{IsSelectable, Placed}

-- numbers that meet the demand of all asks meet that of each
demand_of_one : (P : ℕ → Type 0) (ask : Ask) (asks : List Ask) → In ask asks → MeetsDemand (demand asks) P → MeetsDemand (demand_in ask) P
demand_of_one P ask [] i h = absurd i
demand_of_one P ask (x ∷ asks) (inl e) h = grind (arith, eqb-true)
demand_of_one P ask (x ∷ asks) (inr i) h = demand_of_one P ask asks i (grind (arith, eqb-true))

-- the same numbers, said otherwise
pub same_demand : (P Q : ℕ → Type 0) → ((n : ℕ) → P n → Q n) → ((n : ℕ) → Q n → P n) → (d : Demand) → MeetsDemand d P → MeetsDemand d Q
same_demand P Q f g d h = grind arith

-- ---- whether it is said that there is a number

-- an ask that shows a number says so
pub shows_some : (ask : Ask) (n : ℕ) → shows ask n ≡ true → says_some ask ≡ true
shows_some ask n h = grind arith

-- and so of all
pub no_demand : (asks : List Ask) → list_any says_some asks ≡ false → demand asks ≡ NoDemand
no_demand [] f = refl
no_demand (ask ∷ asks) f = grind (arith, no_demand asks (or_parts (says_some ask) (list_any says_some asks) f).1)

-- where a number is given, it is said that there is one
pub some_said : (asks : List Ask) (n : ℕ) → IsGivenNumber asks n → IsTrue (list_any says_some asks)
some_said asks n h = grind (arith, or_cases, found_in, any_in, shows_some, and_parts, cases_Bool, true≢false, no_demand)

module _ (asks : List Ask) (G : Numbers) (stand : AsksStand asks) (given : HasGivenNumbers asks G) where
  -- and what is shown is given
  shown_in_G : (ask : Ask) → In ask asks → (n : ℕ) → IsTrue (shows ask n) → IsNumber G n
  shown_in_G ask i n s = (given n).1 (inl (shown_known asks n (any_in (λ ask. shows ask n) ask asks i s)))

  -- the given numbers meet each demand
  demand_in_G : (ask : Ask) → In ask asks → MeetsDemand (demand_in ask) (IsNumber G)
  demand_in_G ask i = demand_of_one (IsNumber G) ask asks i (same_demand (IsGivenNumber asks) (IsNumber G) (λ n. (given n).1) (λ n. (given n).0) (demand asks) stand.demand_met)

  meets_in_G : (ask : Ask) → In ask asks → IsTrue (is_possible ask) → IsFewFor G ask → Meets G ask
  meets_in_G (Estimates Strict m) i p few = (few, λ n j. grind (arith, nat_tests, false_from_ne_true, true≢false, any_in), search (arith, or_right, and_from, some_said, any_in, or_left, eq-eqb))
  meets_in_G (ListsIn r ns) i p few = λ n.
      grind (arith, shown_in_G (ListsIn r ns) i n, false_from_ne_true, true≢false, any_in, finds ns n, listed_in ns n, in_range_back r n, each_of (is_in_range r) ns n p, in_contains n ns)
  meets_in_G (StandsAt First m) i p few = least_is G m (shown_in_G (StandsAt First m) i m (eq-eqb m m refl)) (λ n j. ltb-false n m (grind (arith, false_from_ne_true, true≢false, any_in)))
  meets_in_G ask i p few = grind (arith, nat_tests, eqb-true, eq-eqb, false_from_ne_true, true≢false, any_in, shown_in_G ask i, demand_in_G ask i, firsts G)

  -- the given numbers meet what is asked of them
  pub given_meet : AllByRecursion (Meets G) asks
  given_meet = grind (arith, all_from, meets_in_G, all_at, stand.few G given)

-- ---- where marks are strict

module _ (facts : List Fact) (placed : AllByRecursion (Placed Strict facts) facts) where
  -- a group that a 211 selected has strict marks
  selected : (name g : Name) → is_same g name ≡ true → IsSelectable Strict facts g → (m : WaterMarks) × In (Estimates Strict m) (asks_of name facts)
  selected name g same s = grind (arith, to_flat (asks_in name) (Asks g (Estimates Strict s.marks)) (Estimates Strict s.marks) facts s.estimated)

  -- and so has each of which it is said that there is a number
  marked : (name : Name) → list_any says_some (asks_of name facts) ≡ true → (m : WaterMarks) × In (Estimates Strict m) (asks_of name facts)
  marked name t =
      let f = found_in says_some (asks_of name facts) t in
      let g = from_flat (asks_in name) f.0 facts f.1 in
      grind (arith, selected, all_at (Placed Strict facts) g.0 facts placed g.1, from_flat)

  -- so there is no one more: where a number would do, the low mark does
  pub none_more : (name : Name) (n : ℕ) → IsOneMore (asks_of name facts) n → ⊥
  none_more name n x =
      let known : IsTrue (is_known (asks_of name facts) (marked name (some_said (asks_of name facts) n (inr x))).0.low) =
      grind (arith, some_said (asks_of name facts) n (inr x), or_right, and_from, any_in, or_left, eq-eqb) in
      grind (arith, cases_lt, true≢false, any_in, or_left, lt-ltb, wants_less)
