-- Noting what answers say by themselves.
use Rattle.nntp_facts.proofs.Base.{arith, Marks, ◌+◌, ◌^◌, ◌<◌, ◌≤◌, ◌≡◌, ℕ, Bool, true, false, IsTrue, Option, None, Some, sym, ap, subst, ◌∙◌, List, [], ◌∷◌}
use Rattle.nntp_facts.proofs.Base.{◌++◌, length, append-nil, append_assoc, or_left, flat_map-append, IfSome, unwrap_or, option_map, slice_get, AllByRecursion}
use Rattle.nntp_facts.proofs.Base.{option_map_or, Asked, Response, Name, Visible, start, fits, Profile, numbers_of, Position, Fact, here, facts_of, group_of}
use Rattle.nntp_facts.proofs.Base.{is_shown_group, Together, Join, IsWellFormed, together_more, same_itself, Kept, IsKept, Saying, OfGroup, Tells, ◌↔◌, zero}
use Rattle.nntp_facts.proofs.Base.{suc, length-append, lines_in, Holds, size, FitsThere, Placed, said, the_group, SomeHas, told_with, any_back, all_front}
use Rattle.nntp_facts.{proofs.{Base.{size-append}, Keeping.NotedExchange.{Adds}}, specs.Inner.Told.{AreTold, AreToldWith, PlacesTold}}
use Rattle.nntp_kept.specs.Inner.{Saying.{TellsHere, IsShownThen, IsSelectedShown, TellsThere, there_facts}, Kept.{AreAdded}}
use Rattle.nntp_kept.proofs.Keeping.GroupOfASaying.{shown_there}
use Rattle.std.proofs.{Common.{◌*◌}, Math.Path.{ap₂}}
use Rattle.nntp_theory.proofs.{Together.{FactsOfASpoolStand.{stand}, FactsJoin.{answer_agrees}}, Ids.SizeOfASession.{answer_size}}
use Rattle.nntp_theory.{proofs.Session.GroupOfAnAnswer.{same_selected}, specs.{Conflict.{told, told_at}, Inner.Together.{AgreeWithin}}}

-- ---- the group of an answer

-- that there is such a group agrees with itself
the_group_agrees : (profile : Profile) (group : Option Name) → AgreeWithin (the_group profile group)
the_group_agrees profile group = grind arith

module _ (selected : Option Name) (s : Saying) (more : List Fact) (t : TellsThere selected s more) where
  -- behind others, and that there is that group, it tells them
  pub told_behind : (profile : Profile) (facts : List Fact) → Tells (facts ++ the_group profile (group_of more)) s more
  told_behind profile facts = record {
    asks = u.tells.asks;
    same = u.tells.same;
    may = let m = u.tells.may in assumption (by s.group u.group, m.numbers, m.there, m.placed, m.article, m.overviews, m.groups);
  }
    where
      u : TellsHere (unwrap_or selected []) (facts ++ there_facts selected) s more
      u = t (facts ++ there_facts selected) (shown_there facts selected)

      by : (o : Option OfGroup) → option_map (λ g. g.name) o ≡ group_of more → IfSome o (λ g. IsShownThen (facts ++ the_group profile (group_of more)) s.there_is u.tells.asks g.name)
      by o same = grind (arith, any_back, or_left, same_itself)

-- ---- an answer

-- what it says where marks are read so, behind the selected group
pub there_told : (profile : Profile) (a : Placed) (asked : Asked) (response : Response) (at : Position) (name : Name) (numbers : List ℕ) (s : Saying) (how : Marks) → profile.marks ≡ how
    → FitsThere profile a → asked ≡ a.asked → response ≡ a.response → at ≡ a.position → name ≡ unwrap_or a.selected [] → numbers ≡ numbers_of response
    → ((other : Profile) (v : Visible) (all : List Fact) → IsTrue (fits other v asked response) → IsSelectedShown v all → name ≡ here v → numbers ≡ numbers_of response
    → TellsHere name all s (facts_of how v at asked response))
    → TellsThere a.selected s (said profile.marks a)
there_told profile a asked response at name numbers s how marks (v, e, f) to by stands named listed tells all shown =
    let fitting : IsTrue (fits profile v asked response) = ap₂ (λ asked response. fits profile v asked response) to by ∙ f in
    let t = tells profile v all fitting (subst (λ o. IfSome o (λ name. is_shown_group all name ≡ true)) (sym e) shown) (named ∙ sym (ap (λ o. unwrap_or o []) e)) listed in
    grind (arith, same_selected)

-- and so an answer of few lines does
pub told_size : (profile : Profile) (a : Placed) → lines_in a.response < 2 ^ 64 → size (told profile a) ≤ 2 ^ 65
told_size profile a few = grind (arith, size-append, answer_size)

module _ (profile : Profile) (a : Placed) (facts : List Fact) (together : Together facts) where
  abbrev own : List Fact
  own = said profile.marks a

  abbrev group : List Fact
  group = the_group profile (group_of own)

  -- the group can't be there
  pub group_refused : (new : Kept) → (Join facts group → ⊥) → AreTold profile facts (told profile a) new false
  group_refused new none h =
      let holds = subst (AllByRecursion (Holds h.0)) (sym (append_assoc facts group own)) h.2 in
      none ((together_more facts group together (the_group_agrees profile (group_of own))).0
      (stand profile.limit h.0 (facts ++ group) h.1 (all_front (Holds h.0) (facts ++ group) own holds)))

  -- the group is there, and what is said of it is noted
  pub answer_told : (mid new : Kept) (s : Saying) (does : Bool) → Join facts group → IsKept (facts ++ group) mid → AllByRecursion IsWellFormed own → lines_in a.response < 2 ^ 64
      → TellsThere a.selected s own → Adds mid new s does → AreTold profile facts (told profile a) new does
  answer_told mid new s does joins kept formed few tells adds = by does (adds (facts ++ group) own kept both formed (told_behind a.selected s own tells profile facts))
    where
      both : Together (facts ++ group)
      both = (together_more facts group together (the_group_agrees profile (group_of own))).1 joins

      next : Together ((facts ++ group) ++ own) ↔ Join (facts ++ group) own
      next = together_more (facts ++ group) own both (answer_agrees profile.marks (record start.visible { selected = a.selected }) a.position a.asked a.response)

      by : (does : Bool) → AreAdded (facts ++ group) own mid new does → AreTold profile facts (told profile a) new does
      by does added = grind (arith, append_assoc, next, told_size, stand)

-- ---- answers at places

module _ (profile : Profile) (bad : Placed) (answers : List Placed) (places : List ℕ) (place : ℕ) where
  -- what those at one place more say
  pub with_place : (more : List Fact) → told_at profile answers place ≡ more → told_with profile bad answers places ++ more ≡ told_with profile bad answers (places ++ place ∷ [])
  with_place more e = grind (arith, append_assoc, append-nil, flat_map-append)

  -- what they say is little for each of them
  place_size : (more : List Fact) → told_at profile answers place ≡ more → size more ≤ 2 ^ 65 → size (told_with profile bad answers places) ≤ 2 ^ 65 * (length places + 1)
      → size (told_with profile bad answers (places ++ place ∷ [])) ≤ 2 ^ 65 * (length (places ++ place ∷ []) + 1)
  place_size more e few small = grind (arith, size-append (told_with profile bad answers places) more, length-append places (place ∷ []), with_place more e)

  -- they are told
  pub place_told : (a : Placed) (old new : Kept) (does : Bool) → slice_get answers place ≡ Some a → AreToldWith profile bad answers places old
      → AreTold profile (told_with profile bad answers places) (told profile a) new does → PlacesTold profile bad answers (places ++ place ∷ []) new does
  place_told a old new true e before t =
      let here : told_at profile answers place ≡ told profile a = ap (λ o. option_map_or (told profile) o []) e in
      let same = with_place (told profile a) here in
      assumption (subst (λ facts. IsKept facts new) same t.1, subst Together same t.0, place_size (told profile a) here t.2 before.small)
  place_told a old new false e before none = subst (λ facts. SomeHas profile facts → ⊥) (with_place (told profile a) (ap (λ o. option_map_or (told profile) o []) e)) none

  -- where there is no answer, nothing is
  pub nothing_told : (k : Kept) → slice_get answers place ≡ None → AreToldWith profile bad answers places k → AreToldWith profile bad answers (places ++ place ∷ []) k
  nothing_told k e t =
      let none : told_at profile answers place ≡ [] = ap (λ o. option_map_or (told profile) o []) e in
      let same = sym (append-nil (told_with profile bad answers places)) ∙ with_place [] none in
      assumption (subst (λ facts. IsKept facts k) same t.kept, subst Together same t.together, place_size [] none (omega arith) t.small)

-- one of those that fit fits
pub fits_at : (profile : Profile) (answers : List Placed) (place : ℕ) (a : Placed) → AllByRecursion (FitsThere profile) answers → slice_get answers place ≡ Some a → FitsThere profile a
fits_at profile [] place a h e = cc
fits_at profile (b ∷ answers) zero a h e = subst (FitsThere profile) (let same : b ≡ a = cc in same) h.0
fits_at profile (b ∷ answers) (suc place) a h e = fits_at profile answers place a h.1 e
