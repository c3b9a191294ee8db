-- Noting an exchange behind earlier sessions: when it is permitted behind those that were accepted, and what stands then.
use Rattle.nntp_facts.proofs.Base.{Asked, Response, ◌≡◌, ◌+◌, ◌<◌, ◌^◌, Bool, false, true, List, [], ◌∷◌, ◌++◌, map, refl, sym, ap, subst, ◌∙◌, arith}
use Rattle.nntp_facts.proofs.Base.{append_assoc, AllByRecursion, start, fits, Visible, Profile, Fact, facts_of, ThereIs, IsWellFormed, Together, Join, all_both}
use Rattle.nntp_facts.proofs.Base.{all_back, all_from, any_in, Marks, Position, shows_group, same_itself, Kept, IsKept, Saying, Tells, ◌↔◌, ap₂, length-append}
use Rattle.nntp_facts.proofs.Base.{profile_of, Paired, asked_at, asked_of, responses_of, lines_in, FitsAll, size, said_behind, AreFew, facts_of_all, exchanged}
use Rattle.nntp_facts.proofs.Base.{ArePermittedBehind, Contradiction, any_back, all_front, facts_next, as_many, ends, stand_each, facts_behind, FactsKept}
use Rattle.nntp_facts.proofs.Base.{IsNotedBehind, visible_after, IsSpelled, position_after, facts_from, Nowhere, said_by, SomePermitsEach, Consistent}
use Rattle.nntp_facts.proofs.Base.{OutOfPlace, facts_of_session, visible_from, MayFollow, of_these, permitted_next, visible_next, position_next, with_pair}
use Rattle.nntp_facts.{proofs.Base.{Among, HasNoted, still_stands, small_behind, spelled_formed, if_some}, specs.Inner.Noted.{HasNotedBehind, IsDue}}
use Rattle.nntp_facts.specs.Inner.Noted.{MayBeNoted, said_then}
use Rattle.nntp_kept.specs.Inner.{Saying.{IsSelectedShown}, Kept.{AreAdded}}

-- answers that fit leave a group selected that a 211 selected
left_stands : (profile : Profile) (all : List Fact) (v : Visible) (at : Position) (ps : List Asked) (answers : List Response) → HasNoted profile.marks all v → FitsAll profile v ps answers
    → AllByRecursion (Among all) (facts_from profile.marks v at ps answers) → HasNoted profile.marks all (visible_from v ps answers)
left_stands profile all v at ps [] stands f h = stands
left_stands profile all v at [] (a ∷ more) stands f h = absurd f
left_stands profile all v at (p ∷ ps) (a ∷ more) stands f h =
    let rest = facts_from profile.marks (visible_after v p a) (position_after at p a) ps more in
    left_stands profile all (visible_after v p a) (position_after at p a) ps more (still_stands profile all v at p a stands f.1 (all_front (Among all) (facts_of profile.marks v at p a) rest h)) f.2
    (all_back (Among all) (facts_of profile.marks v at p a) rest h)

-- and so one that is shown
shown_of : (how : Marks) (all : List Fact) (v : Visible) → HasNoted how all v → IsSelectedShown v all
shown_of how all v stands = if_some v.selected _ (λ name e. any_in (shows_group name) (ThereIs name) all (stands name e).there (same_itself name))

-- in a session that fits the selected group is shown
pub selected_shown : (profile : Profile) (ps : List Asked) (answers : List Response) → FitsAll profile start.visible ps answers
    → IsSelectedShown (visible_from start.visible ps answers) (facts_of_session profile.marks ps answers)
selected_shown profile ps answers f =
    let all = facts_of_session profile.marks ps answers in
    shown_of profile.marks all (visible_from start.visible ps answers) (left_stands profile all start.visible Nowhere ps answers (λ name e. cc) f (all_from (Among all) all (λ fact i. i)))

-- ---- one exchange more

-- the facts have moved on behind the exchange, whatever is kept
pub record Moves (facts new : FactsKept) (pair : Paired) : Type 0 where
  pub limit : new.limit ≡ facts.limit
  pub marks : new.marks ≡ facts.marks
  pub has_failed : new.has_failed ≡ facts.has_failed
  pub count : new.count ≡ facts.count + 1
  pub visible : new.visible ≡ visible_after facts.visible (asked_at pair.place) pair.response
  pub position : new.position ≡ position_after facts.position (asked_at pair.place) pair.response

-- ---- an exchange that may be noted

module _ (profile : Profile) (facts : FactsKept) (earlier : List (List Paired)) (past : List Paired) (s : HasNotedBehind profile facts earlier past) where
  -- what was said
  abbrev all : List Fact
  all = said_behind profile.marks earlier past

  -- it fits and stands together
  stands : FitsAll profile start.visible (asked_of past) (responses_of past) × Together all
  stands = grind (arith, stand_each, all_back, facts_behind)

  pub stand_together : Together all
  stand_together = stands.1

  -- and shows the selected group
  pub shows_selected : IsSelectedShown facts.visible all
  shows_selected = grind (arith, selected_shown, stands, any_back)

  module _ (pair : Paired) (m : MayBeNoted profile facts pair) where
    -- what it says
    abbrev new : List Fact
    new = said_then profile facts pair

    -- there are few exchanges then
    few : AreFew (past ++ pair ∷ [])
    few = grind (arith, length-append, all_both)

    -- some spool permits it exactly if what it says joins what all said
    pub permitted_if : ArePermittedBehind profile earlier (past ++ pair ∷ []) ↔ Join all new
    permitted_if = (
      λ h. (next.0 (subst (λ q. SomePermitsEach profile (map exchanged earlier ++ q ∷ [])) (with_pair past pair) h)).2,
      λ j. subst (λ q. SomePermitsEach profile (map exchanged earlier ++ q ∷ [])) (sym (with_pair past pair)) (next.1 (m.due.is_open, m.fitting, j)),
    )
      where
        After : Type 0
        After = SomePermitsEach profile (map exchanged earlier ++ of_these (asked_of past ++ asked_at pair.place ∷ []) (responses_of past ++ pair.response ∷ []) ∷ [])

        small : size (facts_of_all profile.marks (map exchanged earlier ++ of_these (asked_of past ++ asked_at pair.place ∷ []) (responses_of past ++ pair.response ∷ []) ∷ [])) < 2 ^ 210
        small = grind (arith, few, with_pair past pair, small_behind profile.marks earlier (past ++ pair ∷ []) s.sessions s.earlier_few few)

        next : After ↔ MayFollow profile facts.visible facts.position all (asked_at pair.place) pair.response
        next =
            let follows = permitted_next profile (map exchanged earlier) (asked_of past) (responses_of past) (asked_at pair.place) pair.response (as_many past) small s.permitted in
            grind (arith, follows, s.position, s.visible)

    -- where it doesn't join, it is a contradiction
    pub noted_contradiction : (Join all new → ⊥) → IsNotedBehind profile earlier past pair facts facts Contradiction
    noted_contradiction none = (m.fitting, λ h. none (permitted_if.0 h), refl)

    -- where it does, and is kept, it is accepted
    pub noted_consistent : (old next : FactsKept) → Moves facts next pair → Join all new → IsKept (all ++ new) next.kept → IsNotedBehind profile earlier past pair old next Consistent
    noted_consistent old next moves joins now = (
      permitted_if.1 joins,
      record {
        profile_is = ap₂ profile_of moves.limit moves.marks ∙ s.profile_is;
        is_whole = moves.has_failed ∙ s.is_whole;
        count = omega (arith, moves.count, s.count, length-append past (pair ∷ []));
        visible = grind (arith, ends, visible_next, as_many);
        position = grind (arith, ends, position_next, as_many);
        kept = subst (λ facts. IsKept facts next.kept) whole now;
        permitted = permitted_if.1 joins;
        sessions = s.sessions;
        earlier_few = s.earlier_few;
        lines = few.lines;
        few = few.few;
      },
    )
      where
        whole : all ++ new ≡ said_behind profile.marks earlier (past ++ pair ∷ [])
        whole = grind (arith, append_assoc (facts_of_all profile.marks (map exchanged earlier)) (said_by profile.marks past) new, ends, facts_next, as_many)

-- ---- what is weighed

-- an exchange that may be noted, and what spells its answer
pub record Weighed (profile : Profile) (facts : FactsKept) (pair : Paired) : Type 0 where
  pub may : MayBeNoted profile facts pair
  pub spelled : IsSpelled pair.place pair.initial pair.response

-- it doesn't fit
pub unfit : (profile used : Profile) (facts old : FactsKept) (earlier : List (List Paired)) (past : List Paired) (pair : Paired) (asked : Asked) (response : Response) (does : Bool)
    → facts ≡ old → HasNotedBehind profile facts earlier past
    → asked ≡ asked_at pair.place → response ≡ pair.response → used ≡ profile_of facts.limit facts.marks → does ≡ fits used facts.visible asked response → does ≡ false
    → IsNotedBehind profile earlier past pair old old OutOfPlace
unfit profile used facts old earlier past pair asked response does is s to by judged tested fails = grind arith

-- so it is, by what is said of the calls
pub weighed : (profile used : Profile) (facts old : FactsKept) (pair : Paired) (asked : Asked) (response : Response) (does : Bool)
    → facts ≡ old → profile_of facts.limit facts.marks ≡ profile → IsDue old pair → pair.index < 2 ^ 63 → lines_in pair.response < 2 ^ 64 → IsSpelled pair.place pair.initial pair.response
    → asked ≡ asked_at pair.place → response ≡ pair.response → used ≡ profile_of facts.limit facts.marks → does ≡ fits used facts.visible asked response → does ≡ true
    → Weighed profile facts pair
weighed profile used facts old pair asked response does is profile_is due low few spelled to by judged tested fitting = grind arith

-- ---- what is added

-- what the call adds of what it is told, and whether it does
abbrev pub Adds : Kept → Kept → Saying → Bool → Type 0
Adds old new saying does = (facts more : List Fact) → IsKept facts old → Together facts → AllByRecursion IsWellFormed more → Tells facts saying more → AreAdded facts more old new does

-- these facts are added behind those that show the selected group, if they join them
abbrev pub AddsBehind : FactsKept → Kept → Bool → List Fact → Type 0
AddsBehind facts new does more = (all : List Fact) → IsSelectedShown facts.visible all → IsKept all facts.kept → Together all → AllByRecursion IsWellFormed more
    → AreAdded all more facts.kept new does

-- so it is of what the answer says
added_here : (profile : Profile) (facts : FactsKept) (kept : Kept) (earlier : List (List Paired)) (past : List Paired) (pair : Paired) (asked : Asked) (response : Response)
    (does : Bool) → Weighed profile facts pair → HasNotedBehind profile facts earlier past → asked ≡ asked_at pair.place → response ≡ pair.response
    → AddsBehind facts kept does (facts_of facts.marks facts.visible facts.position asked response)
    → AreAdded (said_behind profile.marks earlier past) (said_then profile facts pair) facts.kept kept does
added_here profile facts kept earlier past pair asked response does w s to by adds =
    let same : facts_of facts.marks facts.visible facts.position asked response ≡ said_then profile facts pair =
    ap₂ (λ asked response. facts_of facts.marks facts.visible facts.position asked response) to by ∙ ap (λ (profile : Profile). said_then profile facts pair) s.profile_is in
    let formed = spelled_formed profile.marks facts.visible facts.position (asked_at pair.place) pair.response _ w.spelled.spells w.spelled.octets in
    subst (AddsBehind facts kept does) same adds (said_behind profile.marks earlier past) (shows_selected profile facts earlier past s) s.kept (stand_together profile facts earlier past s) formed

-- where nothing is added, no spool permits it
pub refused : (profile : Profile) (facts old : FactsKept) (kept : Kept) (earlier : List (List Paired)) (past : List Paired) (pair : Paired) (asked : Asked) (response : Response)
    → facts ≡ old → Weighed profile facts pair → HasNotedBehind profile facts earlier past → asked ≡ asked_at pair.place → response ≡ pair.response
    → AddsBehind facts kept false (facts_of facts.marks facts.visible facts.position asked response) → IsNotedBehind profile earlier past pair old (record facts { kept = kept }) Contradiction
refused profile facts old kept earlier past pair asked response is w s to by adds =
    let added = added_here profile facts kept earlier past pair asked response false w s to by adds in
    let noted = noted_contradiction profile facts earlier past s pair w.may added.0 in grind arith

-- and else it is accepted
pub accepted : (profile : Profile) (facts old new : FactsKept) (earlier : List (List Paired)) (past : List Paired) (pair : Paired) (asked : Asked) (response : Response)
    → Weighed profile facts pair → HasNotedBehind profile facts earlier past → asked ≡ asked_at pair.place → response ≡ pair.response
    → Moves facts new pair → AddsBehind facts new.kept true (facts_of facts.marks facts.visible facts.position asked response)
    → IsNotedBehind profile earlier past pair old new Consistent
accepted profile facts old new earlier past pair asked response w s to by moves adds =
    let added = added_here profile facts new.kept earlier past pair asked response true w s to by adds in
    noted_consistent profile facts earlier past s pair w.may old new moves added.0 added.1
