-- With which earlier answers a bad answer conflicts.
use Rattle.std.{specs.{Prelude.{Contains}, FinMap.{len-entries}, Cmp.{nat_cmp_total}, List.{AllByRecursion, flat_map}}, proofs.lemmas.Grind.{flat_map-append}}
use Rattle.std.proofs.{lemmas.{Bool.{cases_lt, cases_eq, true≢false, not-true}, List.{length-map}}, Common.{append-nil, map, length-append, ◌≡◌, ℕ, zero, suc}}
use Rattle.std.proofs.Common.{◌+◌, ◌<◌, ◌≤◌, ◌^◌, ◌⊎◌, ◌↔◌, List, [], ◌∷◌, ◌++◌, length, Option, None, Some, inl, inr, refl, sym, ap, subst, ◌∙◌, arith}
use Rattle.nntp_said.specs.{declared.position.Position.{Position, TheVariants.{Nowhere}}, Asks.{position_after}, Facts.{Fact, Holds, facts_of, facts_from}}
use Rattle.nntp_said.specs.{Facts.{group_of}, Inner.Facts.{FitsAll}}
use Rattle.nntp_theory.specs.{Classes.{visible_from, position_from, asked_next}, Inner.{Permits.{SomePermits}, Given.{size}, Together.{Together}}}
use Rattle.nntp_theory.specs.{Inner.Conflict.{FitsThere, AreFound, IsPartOfCore}, Given.{fields_in}, Conflict.{Placed, placed_from, said as said_there}}
use Rattle.nntp_theory.specs.Conflict.{a_group, the_group, with_group, told, SomeHas, told_at, told_with, below, IsCore, Point, Step, Group, Number, Count}
use Rattle.nntp_theory.{specs.Conflict.{First, IdOf, PlaceOf, Article, HeadOf, BodyOf, FieldOf, ConflictAt, AreAmong, IsEndOfCore}, proofs.PointsByRank.{each}}
use Rattle.nntp_theory.proofs.{Maps.{keys_among}, Given.{GivenPermits.{said, permits}, GivenHasFacts.{given_of_facts, given_has}, GivenHolds.{one_given}}}
use Rattle.nntp_theory.proofs.Session.{OneMoreAnswer.{facts_grow}, NumbersOfShownGroups.{Placed as IsPlaced, Among, IsSelectable, session_placed}}
use Rattle.nntp_theory.proofs.{Session.{GroupOfAnAnswer.{same_selected}, FittingFacts.{IsFitting, answer_fitting}}, Members.{In, all_at, all_from, all_both}}
use Rattle.nntp_theory.proofs.Members.{all_front, all_back, in_front, in_back, in_cases, in_map, found_in, to_flat, from_flat, contains_in, in_contains}
use Rattle.nntp_theory.proofs.{Members.{all_part, all_parts, part_first}, Together.FactsOfASpoolStand.{stand}}
use Rattle.nntp_wire.specs.{Answer.{Asked, Response}, declared.marks.Marks.{Marks, TheVariants.{Lenient}}}
use Rattle.nntp_article.specs.Session.{Spool.{Spool, IsSpool, IsGroup, numbers, Name}, Machine.{Visible, visible_after, start, fits}}
use Rattle.nntp_article.specs.{Article.Fields.{words_in}, declared.session.profile.Profile.{Profile}}

-- ---- what answers say, where each fits

-- that there is such a group fits
pub group_fitting : (profile : Profile) (group : Option Name) → AllByRecursion (IsFitting profile) (the_group profile group)
group_fitting profile group = grind arith

-- it says the same in each visible state in which that group is selected
pub there_said : (how : Marks) (a : Placed) (v : Visible) → v.selected ≡ a.selected → facts_of how v a.position a.asked a.response ≡ said_there how a
there_said how a v e = same_selected how v (record start.visible { selected = a.selected }) e a.position a.asked a.response

-- what an answer says fits
pub told_fitting : (profile : Profile) (a : Placed) → FitsThere profile a → AllByRecursion (IsFitting profile) (told profile a)
told_fitting profile a f = grind (arith, all_both, group_fitting, there_said profile.marks a f.0 f.1, answer_fitting profile f.0 a.position a.asked a.response f.2)

-- and is placed among all facts that it is among
pub told_placed : (profile : Profile) (all : List Fact) (a : Placed) → AllByRecursion (Among all) (told profile a) → AllByRecursion (IsPlaced Lenient all) (told profile a)
told_placed profile all a h = grind arith

-- where it holds, the facts of the answer do
pub told_own : (profile : Profile) (S : Spool) (facts : List Fact) → AllByRecursion (Holds S) (with_group profile facts) → AllByRecursion (Holds S) facts
told_own profile S facts h = all_back (Holds S) (the_group profile (group_of facts)) facts h

-- facts that come from answers that fit
pub record AreTold (profile : Profile) (facts : List Fact) : Type 0 where
  pub source : (fact : Fact) → In fact facts
      → (a : Placed) × FitsThere profile a × In fact (told profile a) × ((other : Fact) → In other (told profile a) → In other facts)

-- what each such answer's facts have, they have
pub each_told : (profile : Profile) (facts : List Fact) (P : Fact → Type 0) → AreTold profile facts
    → ((a : Placed) → FitsThere profile a → AllByRecursion (Among facts) (told profile a) → AllByRecursion P (told profile a)) → AllByRecursion P facts
each_told profile facts P t h = grind (arith, all_from, all_at)

-- they fit, and are placed
pub told_fit : (profile : Profile) (facts : List Fact) → AreTold profile facts → AllByRecursion (IsFitting profile) facts × AllByRecursion (IsPlaced Lenient facts) facts
told_fit profile facts t = search (arith, each_told, told_fitting, told_placed)

-- some spool has them exactly if they stand together
pub told_together : (profile : Profile) (facts : List Fact) → AreTold profile facts → size facts < 2 ^ 210 → SomeHas profile facts ↔ Together facts
told_together profile facts t small = (
  λ h. stand profile.limit h.0 facts h.1 h.2,
  λ together.
      let fit = told_fit profile facts t in
      let has = given_has profile Lenient _ facts fit.0 fit.1 together small (given_of_facts profile Lenient facts fit.0 fit.1 small) in
      (_, has.0, has.1),
)

-- what is told by answers
pub all_told : (profile : Profile) (answers : List Placed) → AllByRecursion (FitsThere profile) answers → AreTold profile (flat_map (told profile) answers)
all_told profile answers fits = record {
  source = λ fact i.
      let f = from_flat (told profile) fact answers i in
      (f.0, all_at (FitsThere profile) f.0 answers fits f.1, f.2, λ other j. to_flat (told profile) f.0 other answers f.1 j);
}

-- what is told at a place is told by an answer, or nothing is
told_there : (profile : Profile) (answers : List Placed) (k : ℕ) → AllByRecursion (FitsThere profile) answers
    → (some : List Placed) × AllByRecursion (FitsThere profile) some × (told_at profile answers k ≡ flat_map (told profile) some)
told_there profile (a ∷ answers) zero fits = (a ∷ [], (fits.0, tt), sym (append-nil (told profile a)))
told_there profile (a ∷ answers) (suc k) fits = told_there profile answers k fits.1
told_there profile answers k fits = ([], tt, refl)

-- and so what is told at places
told_places : (profile : Profile) (answers : List Placed) (places : List ℕ) → AllByRecursion (FitsThere profile) answers
    → (some : List Placed) × AllByRecursion (FitsThere profile) some × (flat_map (told_at profile answers) places ≡ flat_map (told profile) some)
told_places profile answers [] fits = ([], tt, refl)
told_places profile answers (k ∷ places) fits =
    let a = told_there profile answers k fits in
    let r = told_places profile answers places fits in
    (a.0 ++ r.0, all_both (FitsThere profile) a.0 r.0 a.1 r.1, (λ i. a.2 i ++ r.2 i) ∙ sym (flat_map-append (told profile) a.0 r.0))

-- what is told by an answer with those at the places
pub with_told : (profile : Profile) (bad : Placed) (answers : List Placed) (places : List ℕ) → FitsThere profile bad
    → AllByRecursion (FitsThere profile) answers → AreTold profile (told_with profile bad answers places)
with_told profile bad answers places fit fits =
    let others = told_places profile answers places fits in
    subst (AreTold profile) (ap (λ facts. told profile bad ++ facts) (sym others.2)) (all_told profile (bad ∷ others.0) (fit, others.1))

-- the answers of a session that fits fit where they stand
pub session_fits : (profile : Profile) (v : Visible) (at : Position) (ps : List Asked) (answers : List Response)
    → FitsAll profile v ps answers → AllByRecursion (FitsThere profile) (placed_from v at ps answers)
session_fits profile v at (p ∷ ps) (a ∷ more) f = ((v, refl, f.1), session_fits profile (visible_after v p a) (position_after at p a) ps more f.2)
session_fits profile v at ps answers f = tt

-- and what is told of them has what they say
pub session_told : (profile : Profile) (S : Spool) (v : Visible) (at : Position) (ps : List Asked) (answers : List Response)
    → AllByRecursion (Holds S) (flat_map (told profile) (placed_from v at ps answers)) → AllByRecursion (Holds S) (facts_from profile.marks v at ps answers)
session_told profile S v at (p ∷ ps) (a ∷ more) h = grind (arith, session_told profile S (visible_after v p a) (position_after at p a) ps more, told_own, all_front, all_both, there_said, all_back)
session_told profile S v at ps answers h = tt

-- ---- fewer facts

pub fewer : (profile : Profile) (facts more : List Fact) → ((fact : Fact) → In fact facts → In fact more) → SomeHas profile more → SomeHas profile facts
fewer profile facts more sub h = (h.0, h.1, all_from (Holds h.0) facts (λ fact i. all_at (Holds h.0) fact more h.2 (sub fact i)))

-- parts at fewer places, behind the same
fewer_told : (own : List Fact) (at : ℕ → List Fact) (xs ys : List ℕ) (fact : Fact) → ((k : ℕ) → In k xs → In k ys) → In fact (own ++ flat_map at xs) → In fact (own ++ flat_map at ys)
fewer_told own at xs ys fact sub i = grind (arith, in_cases fact own (flat_map at xs) i, in_front, in_back, from_flat at fact xs, to_flat, sub)

-- ---- finding a core

-- a place below the bound is one of those
in_below : (k bound : ℕ) → k < bound → In k (below bound)
in_below k zero l = absurd (omega arith)
in_below k (suc bound) l = grind (arith, cases_lt, in_front, in_back, in_below k bound)

-- and back
pub from_below : (k bound : ℕ) → In k (below bound) → k < bound
from_below k zero i = absurd i
from_below k (suc bound) i = elim (in_cases k (below bound) (bound ∷ []) i) [ inl j ↦ omega (arith, from_below k bound j) | inr j ↦ grind arith ]

-- one of those below a bound and of others is below it or one of the others
low_cases : (k bound : ℕ) (xs : List ℕ) → In k (below bound ++ xs) → (k < bound) ⊎ In k xs
low_cases k bound xs i = grind (arith, in_cases k (below bound) xs i, from_below)

-- and back
low_from : (k bound : ℕ) (xs : List ℕ) → (k < bound) ⊎ In k xs → In k (below bound ++ xs)
low_from k bound xs h = elim h [ inl l ↦ in_front k (below bound) xs (in_below k bound l) | inr there ↦ in_back k (below bound) xs there ]

-- what is found from a bound on is found from a lower one on
lower : (Stand : List ℕ → Type 0) (bound low : ℕ) (places : List ℕ) → low ≤ bound → AreFound Stand bound places → AreFound Stand low places
lower Stand bound low [] l f = tt
lower Stand bound low (k ∷ places) l f = (let b = f.0 in omega arith, f.1, f.2)

-- one of those that are found: those before it are below it, and it stands with those behind it and all below it
split : (Stand : List ℕ → Type 0) (bound : ℕ) (front back : List ℕ) (k : ℕ) → AreFound Stand bound (front ++ k ∷ back) → AllByRecursion (λ j. j < k) front × (bound ≤ k) × Stand (below k ++ back)
split Stand bound [] back k f = (tt, f.0, f.1)
split Stand bound (j ∷ front) back k f = grind (arith, split Stand (j + 1) front back k f.2)

-- an element splits the list
pub split_at : (k : ℕ) (xs : List ℕ) → In k xs → (front : List ℕ) × (back : List ℕ) × (xs ≡ front ++ k ∷ back)
split_at k [] i = absurd i
split_at k (x ∷ xs) (inl e) = ([], xs, ap (λ x. x ∷ xs) e)
split_at k (x ∷ xs) (inr i) = let r = split_at k xs i in (x ∷ r.0, r.1, ap (λ ys. x ∷ ys) r.2)

module _ (profile : Profile) (bad : Placed) (answers : List Placed) where
  -- what stands at places with the bad answer
  abbrev StandsWith : List ℕ → Type 0
  StandsWith places = SomeHas profile (told_with profile bad answers places)

  -- fewer places
  pub fewer_places : (xs ys : List ℕ) → ((k : ℕ) → In k xs → In k ys) → StandsWith ys → StandsWith xs
  fewer_places xs ys sub = search (arith, fewer, fewer_told)

  pub core_start : (StandsWith (below (length answers)) → ⊥) → IsPartOfCore profile bad answers (length answers) []
  core_start none = search (arith, fewer_places, in_front)

  pub core_step : (bound k : ℕ) (places : List ℕ) → IsPartOfCore profile bad answers bound places → k < bound → bound ≤ length answers → StandsWith (below k ++ places)
      → (StandsWith (below (k + 1) ++ places) → ⊥) → IsPartOfCore profile bad answers k (k ∷ places)
  core_step bound k places p l within stands none = record {
    there = (omega arith, p.there);
    conflict = λ h. none (fewer_places (below (k + 1) ++ places) (below k ++ k ∷ places) (λ j i. (let c = low_cases j (k + 1) places i in grind (arith, low_from j k (k ∷ places)))) h);
    found = (omega arith, stands, lower StandsWith bound (k + 1) places (omega arith) p.found);
  }

  pub core_done : (bound : ℕ) (places : List ℕ) → IsPartOfCore profile bad answers bound places → (StandsWith places → ⊥) → IsCore profile bad answers places
  core_done bound places p none = record {
    there = p.there;
    conflict = none;
    needed = λ front back k e.
        let s = split StandsWith bound front back k (subst (AreFound StandsWith bound) e p.found) in
        fewer_places (front ++ back) (below k ++ back) (λ j i. grind (arith, low_from j k back, in_cases j front back i, all_at (λ j. j < k) j front s.0)) s.2;
  }

  -- each conflict among the places that are left and found has all that are found
  pub found_in_each : (bound : ℕ) (places some : List ℕ) (k : ℕ) → IsPartOfCore profile bad answers bound places → ((j : ℕ) → In j some → In j (below bound ++ places))
      → (StandsWith some → ⊥) → In k places → In k some
  found_in_each bound places some k p among none i =
      let at = split_at k places i in
      let cut = split StandsWith bound at.0 at.1 k (subst (AreFound StandsWith bound) at.2 p.found) in
      elim (each (In k some) (λ j. j ≡ k → ⊥) some (λ j t. elim (cases_eq j k) [ inl e ↦ inl (subst (λ j. In j some) e t) | inr ne ↦ inr ne ])) [
        | inl there ↦ there
        | inr out ↦ absurd (none (fewer_places some (below k ++ at.1) (λ j t. grind (arith, low_cases, all_at, low_from, in_cases j at.0 (k ∷ at.1))) cut.2))
      ]

  -- each conflict among those below the bound and those at the places has one below the bound
  pub one_below : (bound : ℕ) (places some : List ℕ) → IsEndOfCore profile bad answers bound places → AreAmong some (below bound ++ places) → (StandsWith some → ⊥)
      → (k : ℕ) × (k < bound) × Contains some k
  one_below bound places some e among none =
      elim (each ((k : ℕ) × (k < bound) × Contains some k) (λ k. bound ≤ k) some (λ k i. elim (cases_lt k bound) [ inl l ↦ inl (k, l, contains_in k some i) | inr le ↦ inr le ])) [
        | inl there ↦ there
        | inr high ↦ absurd (none (fewer_places some places
            (λ k i. grind (arith, all_at, low_cases k bound places (in_contains k (below bound ++ places) (among k (contains_in k some i))))) e.stand))
      ]

-- ---- sessions

-- there are so many places below a bound
length-below : (n : ℕ) → length (map suc (below n)) ≡ n
length-below zero = refl
length-below (suc n) = omega (arith, length-map (below n ++ n ∷ []) suc, length-append (below n) (n ∷ []), length-map (below n) suc, length-below n)

-- a number from 1 to a limit is one behind a place below it
one_behind : (limit q : ℕ) → 1 ≤ q → q ≤ limit → In q (map suc (below limit))
one_behind limit zero one le = absurd (omega arith)
one_behind limit (suc p) one le = in_map suc p (below limit) (in_below p limit (omega arith))

-- that there is such a group says no more of a spool that has it
pub group_holds : (profile : Profile) (S : Spool) (name : Name) → IsSpool profile.limit S → IsGroup S name → AllByRecursion (Holds S) (a_group profile name)
group_holds profile S name spool group = grind (arith, keys_among nat_cmp_total (numbers S name) (map suc (below profile.limit)), spool.numbers_in_limit name, one_behind, len-entries, length-below)

-- the group that facts speak of is there, where they are placed
group_there : (how : Marks) (all facts : List Fact) (name : Name) → AllByRecursion (IsPlaced how all) facts → group_of facts ≡ Some name → IsSelectable how all name
group_there how all [] name p e = absurd cc
group_there how all (fact ∷ facts) name p e = grind (arith, group_there how all facts name p.1)

-- and so facts that hold and are placed hold with that there is such a group
with_group_holds : (profile : Profile) (S : Spool) (all facts : List Fact) (group : Option Name) → IsSpool profile.limit S → AllByRecursion (Holds S) all
    → AllByRecursion (IsPlaced profile.marks all) facts → group_of facts ≡ group → AllByRecursion (Holds S) facts → AllByRecursion (Holds S) (the_group profile group ++ facts)
with_group_holds profile S all facts (Some name) spool holds p e h = grind (arith, all_at, group_there profile.marks all facts name, all_both, group_holds)
with_group_holds profile S all facts None spool holds p e h = h

-- what is told of a session holds where all that it says does
told_holds : (profile : Profile) (S : Spool) (all : List Fact) → IsSpool profile.limit S → AllByRecursion (Holds S) all → (v : Visible) (at : Position) (ps : List Asked) (answers : List Response)
    → AllByRecursion (Holds S) (facts_from profile.marks v at ps answers) → AllByRecursion (IsPlaced profile.marks all) (facts_from profile.marks v at ps answers)
    → AllByRecursion (Holds S) (flat_map (told profile) (placed_from v at ps answers))
told_holds profile S all spool holds v at (q ∷ ps) (a ∷ more) h p =
    let own = facts_of profile.marks v at q a in
    let rest = told_holds profile S all spool holds (visible_after v q a) (position_after at q a) ps more in
    grind (arith, rest, with_group_holds profile S all own (group_of own) spool holds, all_front, all_back, all_both, there_said profile.marks)
told_holds profile S all spool holds v at ps answers h p = tt

-- a session that fits is permitted exactly if some spool has what is told of it
pub session_had : (profile : Profile) (ps : List Asked) (answers : List Response) → FitsAll profile start.visible ps answers
    → SomePermits profile ps answers ↔ SomeHas profile (flat_map (told profile) (placed_from start.visible Nowhere ps answers))
session_had profile ps answers fits = (
  λ h. (let says = said profile h.0 ps answers h.2 in
      (h.0, h.1, told_holds profile h.0 (facts_from profile.marks start.visible Nowhere ps answers) h.1 says.1 start.visible Nowhere ps answers says.1 (session_placed profile ps answers fits))),
  λ h. (h.0, h.1, permits profile h.0 ps answers fits (session_told profile h.0 start.visible Nowhere ps answers h.2)),
)

-- each answer has its place
in_places : (profile : Profile) (answers : List Placed) (a : Placed) → In a answers → (k : ℕ) × (k < length answers) × (told_at profile answers k ≡ told profile a)
in_places profile [] a i = absurd i
in_places profile (b ∷ answers) a (inl e) = (0, omega arith, ap (told profile) e)
in_places profile (b ∷ answers) a (inr i) = let r = in_places profile answers a i in (suc r.0, (let l = r.1 in omega arith), r.2)

-- what is told at all places is told of all answers
pub all_places : (profile : Profile) (S : Spool) (answers : List Placed) → AllByRecursion (Holds S) (flat_map (told_at profile answers) (below (length answers)))
    → AllByRecursion (Holds S) (flat_map (told profile) answers)
all_places profile S answers h = all_parts (Holds S) (told profile) answers (λ a i.
    let p = in_places profile answers a i in
    subst (AllByRecursion (Holds S)) p.2 (all_part (Holds S) (told_at profile answers) p.0 (below (length answers)) (in_below p.0 (length answers) p.1) h))

-- a contradiction conflicts with the answers before it
pub contradicts : (profile : Profile) (ps : List Asked) (answers : List Response) (asked : Asked) (response : Response) → asked_next ps answers ≡ Some asked
    → FitsAll profile start.visible ps (answers ++ response ∷ []) → (SomePermits profile ps (answers ++ response ∷ []) → ⊥)
    → SomeHas profile (told_with profile (record { selected = (visible_from start.visible ps answers).selected; position = position_from Nowhere ps answers; asked = asked; response = response })
    (placed_from start.visible Nowhere ps answers) (below (length (placed_from start.visible Nowhere ps answers)))) → ⊥
contradicts profile ps answers asked response comes fits none (S, spool, holds) = let v = visible_from start.visible ps answers in
    let bad : Placed = record { selected = v.selected; position = position_from Nowhere ps answers; asked = asked; response = response } in
    let placed = placed_from start.visible Nowhere ps answers in
    let others = flat_map (told_at profile placed) (below (length placed)) in
    let own = told_own profile S (said_there profile.marks bad) (all_front (Holds S) (told profile bad) others holds) in
    let before = session_told profile S start.visible Nowhere ps answers (all_places profile S placed (all_back (Holds S) (told profile bad) others holds)) in
    none (S, spool, permits profile S ps (answers ++ response ∷ []) fits (grind (arith, facts_grow profile.marks start.visible Nowhere ps answers asked response comes, all_both)))

-- ---- where facts conflict

-- what conflicts somewhere doesn't stand together
pub at_point : (facts : List Fact) (point : Point) → ConflictAt facts point → Together facts → ⊥
at_point facts (Step name) h t = grind (arith, found_in, true≢false, all_at, t.numbers name, not-true)
at_point facts (Group name) h t = true≢false (sym h.1 ∙ t.groups name h.0)
at_point facts (Number name n) h t = true≢false (sym h.1 ∙ (t.numbers name).not_denied n (inl h.0))
at_point facts (Count name) h t = h.2 ((t.numbers name).few h.0 h.1)
at_point facts (First name) h t = h (t.numbers name).demand_met
at_point facts (IdOf name n) h t = h (t.ids name n)
at_point facts (PlaceOf name id) h t = h (t.ids_once name id)
at_point facts (Article id) h t = true≢false (sym h.1 ∙ t.articles id h.0)
at_point facts (HeadOf id) h t = h (t.heads id)
at_point facts (BodyOf id) h t = h (t.bodies id)
at_point facts (FieldOf id field) h t =
    h (all_from _ facts (λ fact i. grind (arith, part_first (λ fields. words_in fields field) (fields_in id) facts, one_given (fields_in id) facts (t.fields id) fact i)))
