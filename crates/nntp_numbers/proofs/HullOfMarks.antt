-- The hull of the strict marks: what is known is known by it, where it isn't denied.
use Rattle.std.proofs.Common.{◌≡◌, ℕ, ◌≤◌, ◌⊎◌, Bool, true, ◌&&◌, ◌||◌, ◌==◌, IsTrue, List, [], ◌∷◌, ◌++◌, Option, None, Some, inl, refl, arith}
use Rattle.std.{proofs.lemmas.Bool.{and_from, or_left, or_right, or_cases, eq-eqb, false_from_ne_true, Decides.{nat_tests}}, specs.List.{list_any}}
use Rattle.std.specs.Prelude.{IsFalse, MatchOption}
use Rattle.nntp_wire.specs.declared.{marks.Marks.TheVariants.{Strict}, water_marks.WaterMarks.{WaterMarks}}
use Rattle.nntp_said.specs.{Asks.{Ask, Estimates, ListsIn, Has, StandsAt, StepsUp, StepsDown}, declared.position.Position.TheVariants.{First}}
use Rattle.nntp_theory.{proofs.{GivenNumbers.GivenNumbersMeet.{shows_some, no_demand}, Members.{In, any_in, found_in}}, specs.Given.{shows, is_shown}}
use Rattle.nntp_theory.specs.{Given.{is_denied, is_known, is_end, says_some, demand_in, demand}, Inner.{Conflict.{AreApart}, OneMore.{is_demanding}}}
use Rattle.nntp_theory.specs.Inner.Together.{AsksStand}
use Rattle.nntp_numbers.specs.{Inner.Part.{join_ends, ends_in, ends_of, is_end_of}, declared.ends.Ends.{Ends}}

-- ---- the hull

-- the hull of both lists
pub ends_append : (xs ys : List Ask) → ends_of (xs ++ ys) ≡ join_ends (ends_of xs) (ends_of ys)
ends_append [] ys = refl
ends_append (ask ∷ xs) ys = grind (arith, ends_append xs ys)

-- what is known by the hull
abbrev pub is_known_by : List Ask → ℕ → Bool
is_known_by asks n = is_shown asks n || (list_any says_some asks && is_end_of (ends_of asks) n)

-- one of the asks has the number as a strict mark
abbrev HasEnd : List Ask → ℕ → Type 0
HasEnd asks n = list_any (λ ask. is_end ask n) asks ≡ true

-- both ends of the hull are strict marks
ends_are : (asks : List Ask) (e : Ends) → ends_of asks ≡ Some e → HasEnd asks e.low × HasEnd asks e.high
ends_are [] e is = cc
ends_are (Estimates Strict m ∷ asks) e is =
    elim (ends_of asks) as (λ o. ends_of asks ≡ o → join_ends (ends_in (Estimates Strict m)) o ≡ Some e → HasEnd (Estimates Strict m ∷ asks) e.low × HasEnd (Estimates Strict m ∷ asks) e.high) [
      | None ↦ λ at is. grind (arith, eq-eqb)
      | Some b ↦ λ at is. grind (arith, ends_are asks b at, nat_tests)
    ] refl is
ends_are (ask ∷ asks) e is = ends_are asks e is

-- strict marks are within a hull
abbrev AreWithin : WaterMarks → Option Ends → Type 0
AreWithin m hull = MatchOption hull ⊥ (λ e. (e.low ≤ m.low) × (m.high ≤ e.high))

within_ends : (asks : List Ask) (m : WaterMarks) → In (Estimates Strict m) asks → AreWithin m (ends_of asks)
within_ends [] m i = absurd i
within_ends (ask ∷ asks) m i = grind (arith, within_ends asks m)

-- ---- where the ends of the hull aren't denied

module _ (asks : List Ask) (e : Ends) (is : ends_of asks ≡ Some e) (low : IsFalse (is_denied asks e.low)) (high : IsFalse (is_denied asks e.high)) where
  same_marks : (m : WaterMarks) → In (Estimates Strict m) asks → (e.low ≡ m.low) × (e.high ≡ m.high)
  same_marks m i = grind (arith, within_ends, any_in, nat_tests)

  -- all strict marks are the hull's
  same_ends : (n : ℕ) → list_any (λ ask. is_end ask n) asks ≡ is_end_of (Some e) n
  same_ends n = grind (arith, found_in, nat_tests, ends_are asks e is, same_marks)

  -- what isn't denied is between the ends
  pub between_ends : (n : ℕ) → IsFalse (is_denied asks n) → (e.low ≤ n) × (n ≤ e.high)
  between_ends n free = grind (arith, found_in, ends_are asks e is, same_marks, any_in, nat_tests)

-- the ends are given, where it is said that there is a number
pub ends_known : (asks : List Ask) (e : Ends) → ends_of asks ≡ Some e → list_any says_some asks ≡ true → IsTrue (is_known asks e.low) × IsTrue (is_known asks e.high)
ends_known asks e is some = grind (arith, or_right, and_from, ends_are asks e is)

-- ---- what is known by the hull

-- where the ends aren't denied, or no number is said to be there, what is known is known by the hull
pub known_by : (asks : List Ask) → (list_any says_some asks ≡ true → (e : Ends) → ends_of asks ≡ Some e → IsFalse (is_denied asks e.low) × IsFalse (is_denied asks e.high))
    → (n : ℕ) → is_known asks n ≡ is_known_by asks n
known_by asks free n = grind (arith, same_ends, false_from_ne_true, found_in, within_ends)

-- so it is where nothing that is known is denied
pub apart_known : (asks : List Ask) → AreApart asks → (n : ℕ) → is_known asks n ≡ is_known_by asks n
apart_known asks apart = known_by asks (λ said e is. let known = ends_known asks e is said in (apart e.low known.0, apart e.high known.1))

-- as where all stands together
pub stands_by_hull : (asks : List Ask) → AsksStand asks → (n : ℕ) → is_known asks n ≡ is_known_by asks n
stands_by_hull asks stand = apart_known asks (λ n t. stand.not_denied n (inl t))

-- and where nothing that is known by the hull is denied
pub apart_by_hull : (asks : List Ask) → ((n : ℕ) → IsTrue (is_known_by asks n) → IsFalse (is_denied asks n)) → (n : ℕ) → is_known asks n ≡ is_known_by asks n
apart_by_hull asks apart = grind (arith, known_by, or_left, eq-eqb, or_right, and_from)

-- ---- whether a number is said to be there

-- an ask that says so shows a number or demands one
shows_or_demands : (ask : Ask) → says_some ask ≡ true → ((n : ℕ) × (shows ask n ≡ true)) ⊎ (is_demanding (demand_in ask) ≡ true)
shows_or_demands (ListsIn r (m ∷ ns)) t = inl (m, or_left (m == m) _ (eq-eqb m m refl))
shows_or_demands (Has m) t = inl (m, eq-eqb m m refl)
shows_or_demands (StandsAt First m) t = inl (m, eq-eqb m m refl)
shows_or_demands (StepsUp at m) t = inl (m, eq-eqb m m refl)
shows_or_demands (StepsDown at m) t = inl (m, eq-eqb m m refl)
shows_or_demands ask t = grind arith

-- so all say it exactly if one shows a number, or the demand wants one
pub said_some : (asks : List Ask) → list_any says_some asks ≡ true → ((n : ℕ) × IsTrue (is_shown asks n)) ⊎ (is_demanding (demand asks) ≡ true)
said_some [] t = cc
said_some (ask ∷ asks) t = grind (arith, said_some asks, or_cases, shows_or_demands, or_left, or_right)

pub shown_says : (asks : List Ask) (n : ℕ) → IsTrue (is_shown asks n) → list_any says_some asks ≡ true
shown_says asks n s = grind (arith, found_in (λ ask. shows ask n) asks s, any_in, shows_some)

pub demand_says : (asks : List Ask) → is_demanding (demand asks) ≡ true → list_any says_some asks ≡ true
demand_says asks d = grind (arith, no_demand asks)

-- what is so exactly if a number is shown or demanded is so exactly if all say that there is one
pub some_is : (asks : List Ask) (b : Bool) → (b ≡ true → ((n : ℕ) × IsTrue (is_shown asks n)) ⊎ (is_demanding (demand asks) ≡ true))
    → ((n : ℕ) → IsTrue (is_shown asks n) → b ≡ true) → (is_demanding (demand asks) ≡ true → b ≡ true) → b ≡ list_any says_some asks
some_is asks b forth shown demanded = grind (arith, shown_says, demand_says, said_some)
