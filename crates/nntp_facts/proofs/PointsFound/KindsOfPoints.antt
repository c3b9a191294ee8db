-- Points of each kind, where what an answer says conflicts with what is kept.
use Rattle.nntp_facts.proofs.Base.{arith, ℕ, Bool, true, false, not, IsTrue, List, [], ◌≡◌, ◌∷◌, ◌++◌, ◌<◌, Option, None, Some, inl, inr, refl, sym, ap, subst}
use Rattle.nntp_facts.proofs.Base.{◌∙◌, append-nil, true≢false, and_parts, or_left, or_right, not-true, false_from_ne_true, list_any-append, IfSome, IsFalse}
use Rattle.nntp_facts.proofs.Base.{MatchOption, option_map, AllByRecursion, list_any, list_all, option_map_or, same_text, ActiveValue, Name, is_same, Profile}
use Rattle.nntp_facts.proofs.Base.{Ask, Bounds, Estimates, Fact, ThereIs, Asks, GroupsAre, group_of, asks_of, shows_group, is_shown_group, is_denied, demand}
use Rattle.nntp_facts.proofs.Base.{IsGivenNumber, is_possible, denies_group, all_at, all_from, found_in, asks_append, same_itself, Says, Kept, OfGroup}
use Rattle.nntp_facts.proofs.Base.{asked_id, is_listed, MayList, NoneIsMissing, or-false, ◌⊎◌, cases_Bool, Lenient, is_known, MeetsDemand, GiveOne, widest}
use Rattle.nntp_facts.proofs.Base.{the_group, Point, Step, Group, Number, Count, First, rank, ConflictAt, AreTooMany, GiveSame, at_point, of_rank, apart_both}
use Rattle.nntp_facts.proofs.{Base.{give_one_both, IsPointOf}, PointsFound.Statements.{shown_told, denied_told, asks_listed, asks_told}}
use Rattle.nntp_facts.specs.Inner.Points.{Statement, TellsAlone, IsPointIn, IsBeside, IsAbout, is_impossible, shows_name, denies_name}
use Rattle.nntp_kept.{specs.Inner.{ListedGroups.{bounds_of}, Saying.{IsAlone}}, proofs.Keeping.ListedGroups.{no_bounds, bounds_at}}

-- an ask can't be met
abbrev pub cannot : Ask → Bool
cannot ask = not (is_possible ask)

not_all : (asks : List Ask) → list_any cannot asks ≡ not (list_all is_possible asks)
not_all [] = refl
not_all (ask ∷ asks) = grind (arith, not_all asks)

bounds_can : (name : Name) (lines : List ActiveValue) → list_any cannot (bounds_of name lines) ≡ false
bounds_can name [] = refl
bounds_can name (line ∷ lines) = grind (arith, bounds_can name lines)

-- what an answer says can't be where its part says so
pub impossible_told : (profile : Profile) (t : Statement) (here : List Fact) → TellsAlone profile t here → (name : Name) → list_any cannot (asks_of name here) ≡ is_impossible name t
impossible_told profile t here tells name = grind (arith, asks_told profile t here tells name, bounds_can name, not_all, tells.tells.may.numbers)

-- where no point is found, what is so then
none_so : {P Q : Type 0} (R : Point → Type 0) (o : Option Point) → (P → Q) → MatchOption o P R → MatchOption o Q R
none_so R o f h = grind arith

-- ---- one answer beside the others

module _ (profile : Profile) (facts : List Fact) (k : Kept) (t : Statement) (more : List Fact) (h : IsBeside profile facts k t more) where
  abbrev all : List Fact
  all = facts ++ more

  -- they conflict at no point of the rank
  abbrev IsFree : ℕ → Type 0
  IsFree n = (other : Point) → rank other ≡ n → ConflictAt all other → ⊥

  abbrev Free : Point → Type 0
  Free point = ConflictAt all point → ⊥

  -- without the answer they conflict nowhere
  none_before : (point : Point) → ConflictAt facts point → ⊥
  none_before point c = at_point facts point c h.together

  -- ---- what is given

  -- what both give of one thing they give once
  pub one_given : {A : Type 0} (f : Fact → Option A) → ((name : Name) → f (ThereIs name) ≡ None) → ((name : Name) (ask : Ask) → f (Asks name ask) ≡ None)
      → GiveOne f facts → GiveOne f h.tells.own → GiveSame f facts more → GiveOne f all
  one_given f there ask before own same =
      let whole : GiveOne f more = grind (arith, h.tells.whole, there, ask, own, give_one_both f (the_group profile (group_of h.tells.own)) h.tells.own) in
      give_one_both f facts more before whole same

  -- ---- what can't be

  cannot_all : (name : Name) → list_any cannot (asks_of name all) ≡ is_impossible name t
  cannot_all name = grind (arith, cases_Bool, none_before (Step name), asks_append name facts more, list_any-append, impossible_told profile t more h.tells name)

  pub step_found : (g : OfGroup) → t.saying.group ≡ Some g → g.numbers.possible ≡ false → ConflictAt all (Step g.name)
  step_found g e no_way = grind (arith, same_itself, cannot_all g.name)

  pub step_free : ((name : Name) → is_impossible name t ≡ false) → IsFree 0
  step_free none = of_rank Free 0 (λ name c. true≢false (sym c ∙ cannot_all name ∙ none name))

  pub no_step : t.saying.group ≡ None → IsFree 0
  no_step e = grind (arith, step_free)

  pub possible_step : (g : OfGroup) → t.saying.group ≡ Some g → g.numbers.possible ≡ true → IsFree 0
  possible_step g e possible = grind (arith, step_free)

  -- ---- groups

  group_found : (name : Name) → IsTrue (is_shown_group facts name) ⊎ IsTrue (shows_name name t) → IsTrue (list_any (denies_group name) facts) ⊎ IsTrue (denies_name name t)
      → ConflictAt all (Group name)
  group_found name s d = grind (arith, list_any-append, shown_told profile t more h.tells name, denied_told profile t more h.tells name, or_left, or_right)

  pub group_free : ((name : Name) → IsTrue (shows_name name t) → IsFalse (list_any (denies_group name) facts))
      → ((name : Name) → IsTrue (denies_name name t) → IsTrue (is_shown_group facts name) → ⊥)
      → ((name : Name) → IsTrue (shows_name name t) → IsTrue (denies_name name t) → ⊥) → IsFree 1
  group_free shows denies apart = of_rank Free 1 (λ name c.
      let both = apart_both (shows_group name) (denies_group name) facts more (h.together.groups name) in
      grind (arith, true≢false, false_from_ne_true, both, shown_told profile t more h.tells name, denied_told profile t more h.tells name, shows name, denies name, apart name))

  -- ---- numbers

  -- of each point of the rank that is about the numbers of the group
  abbrev IsFreeOf : ℕ → Name → Type 0
  IsFreeOf n name = (other : Point) → rank other ≡ n → IsAbout name other → ConflictAt all other → ⊥

  -- so it is where the answer says nothing of them
  as_before : (name : Name) → asks_of name more ≡ [] → (other : Name) → name ≡ other → asks_of other all ≡ asks_of other facts
  as_before name e other is = asks_append other facts more ∙ ap (λ asks. asks_of other facts ++ asks) (subst (λ n. asks_of n more ≡ []) is e) ∙ append-nil (asks_of other facts)

  silent_free : (n : ℕ) (name : Name) → asks_of name more ≡ [] → IsFreeOf n name
  silent_free n name e (Number other m) i is c = none_before (Number other m) (subst (λ asks. IsTrue (is_known asks m) × IsTrue (is_denied asks m)) (as_before name e other is) c)
  silent_free n name e (Count other) i is c = none_before (Count other) (subst AreTooMany (as_before name e other is) c)
  silent_free n name e (First other) i is c = none_before (First other) (subst (λ asks. MeetsDemand (demand asks) (IsGivenNumber asks) → ⊥) (as_before name e other is) c)
  silent_free n name e other i is c = absurd is

  each_free : (n : ℕ) → 1 < n → n < 5 → ((name : Name) → IsFreeOf n name) → IsFree n
  each_free n low high each (Number name m) e c = each name (Number name m) e refl c
  each_free n low high each (Count name) e c = each name (Count name) e refl c
  each_free n low high each (First name) e c = each name (First name) e refl c
  each_free n low high each other e c = omega (arith, low, high, e)

  listed_numbers_free : (n : ℕ) → 1 < n → n < 5 → (l : Option (List ℕ) × List ActiveValue) → t.saying.groups ≡ Some l → AllByRecursion (λ line. IsFreeOf n line.name) l.1 → IsFree n
  listed_numbers_free n low high l e free = each_free n low high (λ name. elim (cases_Bool (is_listed l.1 name)) [
    | inl s ↦ (let f = found_in (λ line. is_same line.name name) l.1 s in subst (IsFreeOf n) (same_text f.0.name name (sym f.2)) (all_at (λ line. IsFreeOf n line.name) f.0 l.1 free f.1))
    | inr s ↦ silent_free n name (asks_listed profile t more h.tells l e name ∙ no_bounds name l.1 s)
  ])

  pub no_numbers_free : (n : ℕ) → 1 < n → n < 5 → t.saying.group ≡ None → t.saying.groups ≡ None → IsFree n
  no_numbers_free n low high e none = each_free n low high (λ name. silent_free n name (grind (arith, asks_told profile t more h.tells name)))

  -- ---- what is found

  pub group_point : (n : ℕ) → 1 < n → n < 5 → (g : OfGroup) → t.saying.group ≡ Some g → (o : Option Point)
      → ((asks : List Ask) → Says g.numbers asks → asks_of g.name all ≡ asks_of g.name facts ++ Estimates Lenient (widest profile) ∷ asks → IsPointIn all g.name n o) → IsPointOf all n o
  group_point n low high g e o found = none_so (λ point. ConflictAt all point × (rank point ≡ n)) o
      (λ free. each_free n low high (λ name. grind (arith, cases_Bool, same_text g.name name, asks_told profile t more h.tells name, silent_free n name)))
      (found (h.tells.tells.asks ++ asked_id g.id)
      (subst (λ o. IfSome o (λ (g : OfGroup). Says g.numbers (h.tells.tells.asks ++ asked_id g.id))) e h.tells.tells.may.numbers)
      (grind (arith, asks_append g.name facts more, asks_told profile t more h.tells g.name, same_itself g.name)))

  listed_alone : (l : Option (List ℕ) × List ActiveValue) → t.saying.groups ≡ Some l → MayList l.0 l.1 × IsAlone t.saying
  listed_alone l e = subst (λ o. IfSome o (λ l. MayList l.0 l.1 × IsAlone t.saying)) e h.tells.tells.may.groups

  pub listed_point : (n : ℕ) → 1 < n → n < 5 → (l : Option (List ℕ) × List ActiveValue) → t.saying.groups ≡ Some l → (o : Option Point)
      → (AllByRecursion (λ line. asks_of line.name all ≡ asks_of line.name facts ++ Bounds line.low line.high ∷ []) l.1
      → MatchOption o (AllByRecursion (λ line. IsFreeOf n line.name) l.1) (λ point. ConflictAt all point × (rank point ≡ n))) → IsPointOf all n o
  listed_point n low high l e o found = none_so (λ point. ConflictAt all point × (rank point ≡ n)) o (listed_numbers_free n low high l e)
      (found (all_from _ l.1 (λ line i. asks_append line.name facts more
      ∙ ap (λ asks. asks_of line.name facts ++ asks) (asks_listed profile t more h.tells l e line.name ∙ bounds_at line l.1 (listed_alone l e).0.differ i))))

  -- a group that is shown and not listed
  module _ (l : Option (List ℕ) × List ActiveValue) (e : t.saying.groups ≡ Some l) where
    shows : (name : Name) → shows_name name t ≡ is_listed l.1 name
    shows name = grind (arith, h.tells.named, (listed_alone l e).1.group)

    -- where none that is listed is denied
    pub unlisted_group : AllByRecursion (λ line. IsFalse (list_any (denies_group line.name) facts)) l.1 → (o : Option Name)
        → MatchOption o (NoneIsMissing facts l.0 l.1) (λ name. IsTrue (is_shown_group facts name) × IsTrue (denies_group name (GroupsAre l.0 l.1))) → IsPointOf all 1 (option_map Group o)
    unlisted_group free (Some name) found = grind (arith, group_found name)
    unlisted_group free None missing = group_free
        (λ name s. let f = found_in (λ line. is_same line.name name) l.1 (sym (shows name) ∙ s) in
        subst (λ name. IsFalse (list_any (denies_group name) facts)) (same_text f.0.name name (sym f.2)) (all_at (λ line. IsFalse (list_any (denies_group line.name) facts)) f.0 l.1 free f.1))
        (λ name d s. grind (arith, true≢false, missing name s, and_parts, not-true))
        (λ name s d. grind (arith, true≢false, shows name, and_parts, not-true))

  -- the group of which the answer speaks, if it is denied, or the one that it denies, if it is shown
  module _ (none : t.saying.groups ≡ None) where
    named : (o : Option Name) (name : Name) → IsTrue (option_map_or (λ g. is_same g name) o false) → o ≡ Some name
    named None name s = absurd (true≢false (sym s))
    named (Some g) name s = ap (λ (g : Name). Some g) (same_text g name (sym s))

    pub named_group : (o : Option Name) → MatchOption o (IfSome t.group (λ name. IsFalse (list_any (denies_group name) facts))
        × IfSome t.saying.there_is_no (λ name. IsFalse (is_shown_group facts name) × (t.group ≡ Some name → ⊥)))
        (λ name. ((t.group ≡ Some name) × IsTrue (list_any (denies_group name) facts)) ⊎ ((t.saying.there_is_no ≡ Some name) × (IsTrue (is_shown_group facts name) ⊎ (t.group ≡ Some name))))
        → IsPointOf all 1 (option_map Group o)
    named_group (Some name) found = grind (arith, group_found name, or-false, same_itself name)
    named_group None (free, missing) = group_free
        (λ name s. grind (arith, or-false, named t.group name))
        (λ name d s. grind (arith, true≢false, or-false, named t.saying.there_is_no name))
        (λ name s d. grind (arith, or-false, named t.group name, named t.saying.there_is_no name))

    -- where the group of which it speaks isn't denied
    pub missing_group : IfSome t.group (λ name. IsFalse (list_any (denies_group name) facts)) → (o : Option Name)
        → MatchOption o (IfSome t.saying.there_is_no (λ name. IsFalse (is_shown_group facts name) × (t.group ≡ Some name → ⊥)))
        (λ name. (t.saying.there_is_no ≡ Some name) × (IsTrue (is_shown_group facts name) ⊎ (t.group ≡ Some name))) → IsPointOf all 1 (option_map Group o)
    missing_group free o missing = grind (arith, named_group)
