-- Judging sessions one exchange after the other: how it begins, passes an exchange, goes on to the next session, and ends.
use Rattle.std.proofs.{Common.{◌≡◌, ℕ, ◌+◌, ◌<◌, ◌^◌, List, [], ◌∷◌, ◌++◌, length, map, refl, sym, ap, subst, ◌∙◌, arith}, lemmas.List.{map-append}}
use Rattle.nntp_article.specs.{Session.Spool.{Spool}, declared.session.profile.Profile.{Profile}}
use Rattle.nntp_pair.specs.declared.class.{PairClass.{PairClass}, Class.TheVariants.{OutOfPlace as IsOutOfPlace, Contradiction as Contradicts}}
use Rattle.nntp_pair.{specs.{Pairing.{Paired, Unpaired, IsNext, Ends, end, bad, streams}, Classes.{class_of}}, proofs.PairingLemmas.{AreNext-push}}
use Rattle.nntp_theory.specs.{declared.noted.Noted.TheVariants.{Consistent, OutOfPlace, Contradiction}, Given.{IsGiven}, Inner.Given.{size}}
use Rattle.nntp_theory.{specs.{Inner.Exchanged.{said_behind}, Answered.{SomePermitsEach, facts_of_all}, Permitted.{exchanged}}, proofs.Members.{all_front}}
use Rattle.nntp_theory.proofs.Given.SessionsGoOn.{facts_behind, small_behind}
use Rattle.nntp_facts.{specs.Inner.Noted.{FactsKept, HasNotedBehind, IsNotedBehind, begun}, proofs.Reading.NotedAsJudged.{unfit_refused, contradiction_refused}}
use Rattle.nntp_facts.proofs.Keeping.NotedSessions.{session_begins}
use Rattle.nntp_several.specs.{Outcome.{YesOfAll, NoOfAll, IsOutcomeOfAll}, Inner.{Paired.{IsPairedWhole, ArePaired}, Passing.{PassedOfAll}}}
use Rattle.nntp_several.{specs.Sessions.{Recorded}, proofs.{SessionsRead.{earlier_then}, WaysToOutcome.{outcome_at_all_ends, outcome_at_octets_of_all}}}
use Rattle.nntp_several.proofs.WaysToOutcome.{outcome_at_response_of_all}

-- one session more is paired whole
pub paired_push : (before : List Recorded) (earlier : List (List Paired)) (s : Recorded) (pairs : List Paired) → ArePaired before earlier → IsPairedWhole s pairs
    → ArePaired (before ++ s ∷ []) (earlier ++ pairs ∷ [])
paired_push (r ∷ before) (x ∷ earlier) s pairs p w = (p.0, paired_push before earlier s pairs p.1 w)
paired_push before earlier s pairs p w = grind arith

-- there are as many
pub as_many_sessions : (before : List Recorded) (earlier : List (List Paired)) → ArePaired before earlier → length before ≡ length earlier
as_many_sessions (r ∷ before) (x ∷ earlier) p = let rest = as_many_sessions before earlier p.1 in omega (arith, rest)
as_many_sessions before earlier p = grind arith

-- some spool permits the exchanges of earlier sessions
pub earlier_permitted : (profile : Profile) (facts : FactsKept) (earlier : List (List Paired)) (past : List Paired) → HasNotedBehind profile facts earlier past
    → SomePermitsEach profile (map exchanged earlier)
earlier_permitted profile facts earlier past h = search (arith, all_front)

-- the first session
pub passing_begins : (profile : Profile) (facts : FactsKept) (s : Recorded) → HasNotedBehind profile facts [] [] → PassedOfAll profile [] s facts (streams s.client s.server)
passing_begins profile facts s h = record { earlier = []; ended = tt; pairs = []; next = refl; stands = h }

-- an exchange passes
pub exchange_passes : (profile : Profile) (before : List Recorded) (s : Recorded) (old now : FactsKept) (left after : Unpaired) (pair : Paired) (p : PassedOfAll profile before s old left)
    → IsNext left pair after → IsNotedBehind profile p.earlier p.pairs pair old now Consistent → PassedOfAll profile before s now after
exchange_passes profile before s old now left after pair p next noted =
    record { earlier = p.earlier; ended = p.ended; pairs = p.pairs ++ pair ∷ []; next = AreNext-push p.pairs (streams s.client s.server) left after pair p.next next; stands = noted.1 }

-- the next session begins
pub session_passes : (profile : Profile) (before : List Recorded) (s more : Recorded) (facts : FactsKept) (left : Unpaired) (unanswered : ℕ) → PassedOfAll profile before s facts left
    → Ends left (end unanswered) → length before + 1 < 2 ^ 64 → PassedOfAll profile (before ++ s ∷ []) more (begun facts) (streams more.client more.server)
session_passes profile before s more facts left unanswered p ends few =
    let count = as_many_sessions before p.earlier p.ended in
    record {
      earlier = p.earlier ++ p.pairs ∷ [];
      ended = paired_push before p.earlier s p.pairs p.ended (unanswered, record { left = left; paired = p.next; ends = ends });
      pairs = [];
      next = refl;
      stands = session_begins profile facts p.earlier p.pairs p.stands (omega (arith, count, few));
    }

-- the last session ends
pub passing_ends : (profile : Profile) (before : List Recorded) (s : Recorded) (facts : FactsKept) (left : Unpaired) (unanswered : ℕ) (G : Spool) (p : PassedOfAll profile before s facts left)
    → Ends left (end unanswered) → IsGiven (said_behind profile.marks p.earlier p.pairs) G
    → IsOutcomeOfAll profile (before ++ s ∷ []) (YesOfAll G (map length (p.earlier ++ p.pairs ∷ [])))
passing_ends profile before s facts left unanswered G p ends given =
    let exchanges = p.earlier ++ p.pairs ∷ [] in
    let both = map-append exchanged p.earlier (p.pairs ∷ []) in
    let small = subst (λ sessions. size (facts_of_all profile.marks sessions) < 2 ^ 210) (sym both)
    (small_behind profile.marks p.earlier p.pairs p.stands.sessions p.stands.earlier_few (record { lines = p.stands.lines; few = p.stands.few })) in
    let facts_are = ap (facts_of_all profile.marks) both ∙ facts_behind profile.marks (map exchanged p.earlier) (exchanged p.pairs) in
    outcome_at_all_ends profile (before ++ s ∷ []) exchanges G small
    (paired_push before p.earlier s p.pairs p.ended (unanswered, record { left = left; paired = p.next; ends = ends }))
    (earlier_then profile p.earlier p.pairs p.stands.permitted) (subst (λ facts. IsGiven facts G) (sym facts_are) given)

-- at octets that answer nothing
pub passing_stops : (profile : Profile) (before : List Recorded) (s : Recorded) (more : List Recorded) (facts : FactsKept) (left : Unpaired) (class : PairClass)
    (p : PassedOfAll profile before s facts left)
    → Ends left (bad class) → IsOutcomeOfAll profile (before ++ s ∷ more) (NoOfAll (length before) (length p.pairs) (class_of class))
passing_stops profile before s more facts left class p ends = search (arith, outcome_at_octets_of_all, earlier_permitted)

-- at a contradiction
pub passing_contradicted : (profile : Profile) (before : List Recorded) (s : Recorded) (more : List Recorded) (old now : FactsKept) (left after : Unpaired) (pair : Paired)
    (p : PassedOfAll profile before s old left)
    → IsNext left pair after → IsNotedBehind profile p.earlier p.pairs pair old now Contradiction
    → IsOutcomeOfAll profile (before ++ s ∷ more) (NoOfAll (length before) (length p.pairs) Contradicts)
passing_contradicted profile before s more old now left after pair p next noted =
    let r = contradiction_refused profile p.earlier p.pairs pair old now left after p.stands noted next in
    let is = outcome_at_response_of_all profile before p.earlier p.ended s more (earlier_permitted profile old p.earlier p.pairs p.stands) p.pairs pair left after p.next next p.stands.permitted
    r.0.1 in
    let class : _ ≡ Contradicts = (let e = r.1 in cc) in
    subst (λ class. IsOutcomeOfAll profile (before ++ s ∷ more) (NoOfAll (length before) (length p.pairs) class)) class is

-- and at an answer that is out of place
pub passing_unfitting : (profile : Profile) (before : List Recorded) (s : Recorded) (more : List Recorded) (old now : FactsKept) (left after : Unpaired) (pair : Paired)
    (p : PassedOfAll profile before s old left)
    → IsNext left pair after → IsNotedBehind profile p.earlier p.pairs pair old now OutOfPlace
    → IsOutcomeOfAll profile (before ++ s ∷ more) (NoOfAll (length before) (length p.pairs) IsOutOfPlace)
passing_unfitting profile before s more old now left after pair p next noted =
    let r = unfit_refused profile p.earlier p.pairs pair old now left after p.stands noted next in
    let is = outcome_at_response_of_all profile before p.earlier p.ended s more (earlier_permitted profile old p.earlier p.pairs p.stands) p.pairs pair left after p.next next p.stands.permitted
    r.0.1 in
    let class : _ ≡ IsOutOfPlace = (let e = r.1 in cc) in
    subst (λ class. IsOutcomeOfAll profile (before ++ s ∷ more) (NoOfAll (length before) (length p.pairs) class)) class is
