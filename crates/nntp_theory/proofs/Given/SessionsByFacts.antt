-- Several sessions by what they say: a spool permits each of them exactly if they fit and it has all their facts; so some spool permits them exactly if they fit and all of it stands together.
use Rattle.std.{proofs.Common.{◌<◌, ◌^◌, ◌⊎◌, ◌↔◌, List, [], ◌∷◌, inl, inr, arith, append-nil}, specs.List.{AllByRecursion}}
use Rattle.nntp_article.specs.{Session.{Spool.{Spool, IsSpool}, Machine.{start}}, declared.session.profile.Profile.{Profile}}
use Rattle.nntp_said.{proofs.{FiniteMapsDecided.{Dec, dec_both}, PermittingDecided.{dec_run}}, specs.{Facts.{Fact, Holds}, Inner.Facts.{FitsAll}}}
use Rattle.nntp_theory.proofs.Given.{ConstructedSpool.{made}, GivenHasFacts.{given_of_facts, given_has, least_of_facts}, GivenPermits.{said, permits}}
use Rattle.nntp_theory.proofs.{Given.SpoolsDecided.{dec_spool}, Members.{all_from, all_both, all_front, all_back}, Session.FittingFacts.{IsFitting}}
use Rattle.nntp_theory.proofs.Session.{FittingFacts.{from_fitting}, NumbersOfShownGroups.{Among, Placed, placed_among, session_placed}}
use Rattle.nntp_theory.{proofs.Together.FactsOfASpoolStand.{stand}, specs.{Answered.{Answered, PermitsEach, SomePermitsEach, facts_of_all}, Given.{IsGiven}}}
use Rattle.nntp_theory.specs.{Given.{HasAtLeast, facts_of_session}, Inner.{Answered.{FitEach}, Given.{size}, Permits.{SomePermits}, Together.{Together}}}
use Rattle.nntp_wire.specs.Answer.{Asked, Response}

-- ---- a spool permits sessions exactly if they fit and it has their facts

-- what permitted sessions say holds
pub said_each : (profile : Profile) (S : Spool) (sessions : List Answered) → PermitsEach profile S sessions → FitEach profile sessions × AllByRecursion (Holds S) (facts_of_all profile.marks sessions)
said_each profile S [] h = (tt, tt)
said_each profile S (s ∷ more) h = grind (arith, said, all_both, said_each profile S more h.1)

-- and back
pub permits_each : (profile : Profile) (S : Spool) (sessions : List Answered) → FitEach profile sessions
    → AllByRecursion (Holds S) (facts_of_all profile.marks sessions) → PermitsEach profile S sessions
permits_each profile S [] f h = tt
permits_each profile S (s ∷ more) f h = grind (arith, permits, all_front, all_back, permits_each profile S more f.1)

-- ---- what sessions that fit say

-- it fits
pub all_fitting : (profile : Profile) (sessions : List Answered) → FitEach profile sessions → AllByRecursion (IsFitting profile) (facts_of_all profile.marks sessions)
all_fitting profile [] f = tt
all_fitting profile (s ∷ more) f = grind (arith, all_both, from_fitting, all_fitting profile more f.1)

-- and is placed among all that is said
among_placed : (profile : Profile) (all : List Fact) (sessions : List Answered) → FitEach profile sessions
    → AllByRecursion (Among all) (facts_of_all profile.marks sessions) → AllByRecursion (Placed profile.marks all) (facts_of_all profile.marks sessions)
among_placed profile all [] f h = tt
among_placed profile all (s ∷ more) f h = search (all_both, placed_among, all_front, all_back, among_placed profile all more f.1)

pub all_placed : (profile : Profile) (sessions : List Answered) → FitEach profile sessions
    → AllByRecursion (Placed profile.marks (facts_of_all profile.marks sessions)) (facts_of_all profile.marks sessions)
all_placed profile sessions f = let all = facts_of_all profile.marks sessions in among_placed profile all sessions f (all_from (Among all) all (λ fact i. i))

-- ---- the given spool

-- the spool that is made for sessions
pub made_for_all : Profile → List Answered → Spool
made_for_all profile sessions = made profile.limit (10 ^ 64) (facts_of_all profile.marks sessions)

-- it is given for them, if they fit
pub given_exists_of_all : (profile : Profile) (sessions : List Answered) → FitEach profile sessions
    → size (facts_of_all profile.marks sessions) < 2 ^ 210 → IsGiven (facts_of_all profile.marks sessions) (made_for_all profile sessions)
unfolding made_for_all
given_exists_of_all profile sessions f small = search (arith, given_of_facts, all_fitting, all_placed)

-- the given spool of sessions that fit and stand together is a spool and permits each of them
pub given_permits_all : (profile : Profile) (G : Spool) (sessions : List Answered) → FitEach profile sessions
    → Together (facts_of_all profile.marks sessions) → size (facts_of_all profile.marks sessions) < 2 ^ 210
    → IsGiven (facts_of_all profile.marks sessions) G → IsSpool profile.limit G × PermitsEach profile G sessions
given_permits_all profile G sessions f together small given =
    let has = given_has profile profile.marks G (facts_of_all profile.marks sessions) (all_fitting profile sessions f) (all_placed profile sessions f) together small given in
    (has.0, permits_each profile G sessions f has.1)

-- what some spool permits fits and stands together
pub stand_each : (profile : Profile) (S : Spool) (sessions : List Answered) → IsSpool profile.limit S → PermitsEach profile S sessions
    → FitEach profile sessions × Together (facts_of_all profile.marks sessions)
stand_each profile S sessions spool h = grind (arith, said_each profile S sessions h, stand profile.limit S (facts_of_all profile.marks sessions) spool)

-- the given spool is the least that permits them
pub least_of_all : (profile : Profile) (S G : Spool) (sessions : List Answered) → IsSpool profile.limit S → PermitsEach profile S sessions
    → IsGiven (facts_of_all profile.marks sessions) G → HasAtLeast (facts_of_all profile.marks sessions) G S
least_of_all profile S G sessions spool h given = grind (arith, least_of_facts, said_each)

-- some spool permits sessions exactly if they fit and all that they say stands together
pub permitted_together_of_all : (profile : Profile) (sessions : List Answered) → size (facts_of_all profile.marks sessions) < 2 ^ 210
    → SomePermitsEach profile sessions ↔ (FitEach profile sessions × Together (facts_of_all profile.marks sessions))
permitted_together_of_all profile sessions small = (
  λ h. stand_each profile h.0 sessions h.1 h.2,
  λ h. (let p = given_permits_all profile (made_for_all profile sessions) sessions h.0 h.1 small (given_exists_of_all profile sessions h.0 small) in (made_for_all profile sessions, p.0, p.1)),
)

-- whether a spool permits each of them
dec_each : (profile : Profile) (S : Spool) (sessions : List Answered) → Dec (PermitsEach profile S sessions)
dec_each profile S [] = inl tt
dec_each profile S (s ∷ more) = dec_both (dec_run profile S start s.prompts s.answers) (dec_each profile S more)

-- some spool permits them, or none does
pub some_or_none_of_all : (profile : Profile) (sessions : List Answered) → size (facts_of_all profile.marks sessions) < 2 ^ 210
    → SomePermitsEach profile sessions ⊎ (SomePermitsEach profile sessions → ⊥)
some_or_none_of_all profile sessions small =
    let G = made_for_all profile sessions in
    elim (dec_both (dec_spool profile.limit G) (dec_each profile G sessions)) [ inl h ↦ inl (G, h.0, h.1) | inr h ↦ grind (arith, stand_each, given_permits_all, made_for_all, given_exists_of_all) ]

-- some spool permits one session alone
pub permits_alone : (profile : Profile) (s : Answered) → SomePermitsEach profile (s ∷ []) ↔ SomePermits profile s.prompts s.answers
permits_alone profile s = (λ h. (h.0, h.1, h.2.0), λ h. (h.0, h.1, (h.2, tt)))

-- ---- one session

-- the spool that is made for a session is the given one, if it fits
pub given_exists : (profile : Profile) (ps : List Asked) (answers : List Response) → FitsAll profile start.visible ps answers
    → size (facts_of_session profile.marks ps answers) < 2 ^ 210 → IsGiven (facts_of_session profile.marks ps answers) (made profile.limit (10 ^ 64) (facts_of_session profile.marks ps answers))
given_exists profile ps answers fits small = search (arith, given_of_facts, from_fitting, session_placed)

-- some spool permits a session, or none does
pub some_or_none : (profile : Profile) (ps : List Asked) (answers : List Response) → size (facts_of_session profile.marks ps answers) < 2 ^ 210
    → SomePermits profile ps answers ⊎ (SomePermits profile ps answers → ⊥)
some_or_none profile ps answers small =
    let session : Answered = record { prompts = ps; answers = answers } in
    grind (arith, some_or_none_of_all profile (session ∷ []), permits_alone profile session, append-nil)
