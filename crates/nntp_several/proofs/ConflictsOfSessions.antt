-- A contradiction conflicts with the accepted answers of all sessions.
use Rattle.std.proofs.{Common.{◌≡◌, List, [], ◌∷◌, ◌++◌, length, map, sym, ap, subst, ◌∙◌, append_assoc}, lemmas.Grind.{flat_map-append}}
use Rattle.std.specs.List.{AllByRecursion, flat_map}
use Rattle.nntp_article.specs.{declared.session.profile.Profile.{Profile}, Session.{Machine.{start}, Spool.{Spool}}}
use Rattle.nntp_pair.specs.Pairing.{Paired, asked_of, responses_of}
use Rattle.nntp_said.specs.{declared.position.Position.TheVariants.{Nowhere}, Facts.{Holds}, Inner.Facts.{FitsAll}}
use Rattle.nntp_theory.specs.{declared.noted.Noted.TheVariants.{Contradiction}, Answered.{Answered, facts_of_all}, Inner.Answered.{FitEach}}
use Rattle.nntp_theory.specs.{Inner.{Conflict.{FitsThere}, Exchanged.{said_behind, said_by}}, Conflict.{Placed, placed_of, placed_behind, said as said_there}}
use Rattle.nntp_theory.{specs.{Conflict.{told, told_at, told_with, below, SomeHas}, Permitted.{exchanged, ArePermittedBehind}}, proofs.Conflicts.{session_fits}}
use Rattle.nntp_theory.proofs.{Conflicts.{session_told, told_own, all_places}, Members.{all_both, all_front, all_back}, Given.SessionsByFacts.{stand_each}}
use Rattle.nntp_theory.proofs.Given.SessionsByFacts.{permits_each}
use Rattle.nntp_facts.{specs.Inner.Noted.{FactsKept, HasNotedBehind, IsDue, IsNotedBehind}, proofs.Reading.NotedContradictions.{placed_next}}
use Rattle.nntp_facts.proofs.Keeping.RefusedAnswers.{fit_with, said_with}
use Rattle.nntp_several.specs.Conflict.{placed_of_all}

-- the answers of sessions that fit fit where they stand
all_fit : (profile : Profile) (earlier : List (List Paired)) → FitEach profile (map exchanged earlier) → AllByRecursion (FitsThere profile) (flat_map placed_of earlier)
all_fit profile [] f = tt
all_fit profile (pairs ∷ earlier) f =
    all_both (FitsThere profile) (placed_of pairs) (flat_map placed_of earlier) (session_fits profile start.visible Nowhere (asked_of pairs) (responses_of pairs) f.0) (all_fit profile earlier f.1)

pub accepted_fit_behind : (profile : Profile) (facts : FactsKept) (earlier : List (List Paired)) (past : List Paired) → HasNotedBehind profile facts earlier past
    → AllByRecursion (FitsThere profile) (placed_of_all earlier past)
accepted_fit_behind profile facts earlier past s =
    let h = s.permitted in
    let fit = (stand_each profile h.0 (map exchanged earlier ++ exchanged past ∷ []) h.1 h.2).0 in
    let Fits : Answered → Type 0 = λ s. FitsAll profile start.visible s.prompts s.answers in
    all_both (FitsThere profile) (flat_map placed_of earlier) (placed_of past)
    (all_fit profile earlier (all_front Fits (map exchanged earlier) (exchanged past ∷ []) fit))
    (session_fits profile start.visible Nowhere (asked_of past) (responses_of past) (all_back Fits (map exchanged earlier) (exchanged past ∷ []) fit).0)

-- one exchange more
pub placed_next_behind : (earlier : List (List Paired)) (past : List Paired) (pair : Paired) → placed_of_all earlier (past ++ pair ∷ []) ≡ placed_of_all earlier past ++ placed_behind past pair ∷ []
placed_next_behind earlier past pair =
    ap (λ own. flat_map placed_of earlier ++ own) (placed_next past pair) ∙ sym (append_assoc (flat_map placed_of earlier) (placed_of past) (placed_behind past pair ∷ []))

-- a spool that has what is told of sessions has what they say
told_of_all : (profile : Profile) (S : Spool) (earlier : List (List Paired)) → AllByRecursion (Holds S) (flat_map (told profile) (flat_map placed_of earlier))
    → AllByRecursion (Holds S) (facts_of_all profile.marks (map exchanged earlier))
told_of_all profile S [] h = tt
told_of_all profile S (pairs ∷ earlier) h =
    let own = flat_map (told profile) (placed_of pairs) in
    let rest = flat_map (told profile) (flat_map placed_of earlier) in
    let both = subst (AllByRecursion (Holds S)) (flat_map-append (told profile) (placed_of pairs) (flat_map placed_of earlier)) h in
    all_both (Holds S) (said_by profile.marks pairs) (facts_of_all profile.marks (map exchanged earlier))
    (session_told profile S start.visible Nowhere (asked_of pairs) (responses_of pairs) (all_front (Holds S) own rest both)) (told_of_all profile S earlier (all_back (Holds S) own rest both))

-- a contradiction fits where it stands, and conflicts with them all
pub noted_conflicts_behind : (profile : Profile) (facts : FactsKept) (earlier : List (List Paired)) (past : List Paired) (pair : Paired) → HasNotedBehind profile facts earlier past
    → IsDue facts pair → IsNotedBehind profile earlier past pair facts facts Contradiction
    → FitsThere profile (placed_behind past pair)
    × (SomeHas profile (told_with profile (placed_behind past pair) (placed_of_all earlier past) (below (length (placed_of_all earlier past)))) → ⊥)
noted_conflicts_behind profile facts earlier past pair s due noted = (
  (facts.visible, ap (λ v. v.selected) s.visible, noted.0),
  λ h. noted.1 (permitted h),
)
  where
    answers : List Placed
    answers = placed_of_all earlier past

    bad : Placed
    bad = placed_behind past pair

    permitted : SomeHas profile (told_with profile bad answers (below (length answers))) → ArePermittedBehind profile earlier (past ++ pair ∷ [])
    permitted (S, spool, holds) =
        let others = flat_map (told_at profile answers) (below (length answers)) in
        let first = flat_map (told profile) (flat_map placed_of earlier) in
        let second = flat_map (told profile) (placed_of past) in
        let new = said_there profile.marks bad in
        let both = subst (AllByRecursion (Holds S)) (flat_map-append (told profile) (flat_map placed_of earlier) (placed_of past))
        (all_places profile S answers (all_back (Holds S) (told profile bad) others holds)) in
        let all = told_of_all profile S earlier (all_front (Holds S) first second both) in
        let own = session_told profile S start.visible Nowhere (asked_of past) (responses_of past) (all_back (Holds S) first second both) in
        let last = told_own profile S new (all_front (Holds S) (told profile bad) others holds) in
        let before = all_both (Holds S) (facts_of_all profile.marks (map exchanged earlier)) (said_by profile.marks past) all own in
        let whole = all_both (Holds S) (said_behind profile.marks earlier past) new before last in (
          S,
          spool,
          permits_each profile S (map exchanged earlier ++ exchanged (past ++ pair ∷ []) ∷ []) (fit_with profile facts earlier past pair s due noted)
              (subst (AllByRecursion (Holds S)) (sym (said_with profile facts earlier past pair s)) whole),
        )
