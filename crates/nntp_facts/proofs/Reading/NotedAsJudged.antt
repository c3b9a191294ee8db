-- When an exchange may be noted, what is noted of it behind earlier sessions, and how it is judged.
use Rattle.nntp_facts.proofs.Base.{ℕ, List, [], arith, ◌≡◌, true, ◌∷◌, ◌++◌, map, Some, sym, ap, subst, ◌∙◌, true≢false, Profile, start, fits, all_back, Paired}
use Rattle.nntp_facts.proofs.Base.{asked_at, asked_of, responses_of, exchanged, ArePermittedBehind, SomePermitsEach, Consistent, index_in_session, of_these}
use Rattle.nntp_facts.{proofs.Base.{with_pair, as_many, FactsKept, IsNotedBehind, ClientStream}, specs.Inner.Noted.{HasNoted, IsDue, HasNotedBehind}}
use Rattle.nntp_pair.specs.{Pairing.{Unpaired, IsNext, streams}, declared.class.Class.TheVariants.{OutOfPlace, Contradiction}}
use Rattle.nntp_theory.specs.{Permitted.{ArePermitted}, Reading.{Judged, accepted_of, AreJudged, Accepted, Refused, IsJudged, class_behind}}
use Rattle.nntp_theory.specs.declared.noted.Noted.TheVariants.{OutOfPlace as NotedOutOfPlace, Contradiction as NotedContradiction}
use Rattle.nntp_theory.proofs.{Reading.JudgedAnswers.{accepted_behind, accepted_few, visible_behind, accepted_open}, Session.LaterPrompts.{next_behind}}
use Rattle.nntp_theory.proofs.{Session.{LaterPrompts.{visible_longer}, OneMoreAnswer.{as_few}, PairsGoOn.{Runs}}, Streams.OneClass.{run_fits}}

-- the next pair may be noted
pub due_in_session : (profile : Profile) (client : ClientStream) (server : List ℕ) (answers : List Judged) (left after : Unpaired) (pair : Paired) (facts : FactsKept)
    → AreJudged (ArePermitted profile) [] (streams client server) answers left → HasNoted profile facts (accepted_of answers) → IsNext left pair after → IsDue facts pair
due_in_session profile client server answers left after pair facts judged noted next = grind (arith, index_in_session, accepted_few, accepted_behind, visible_behind, accepted_open)

-- a pair that some spool permits behind others fits
permitted_fits : (profile : Profile) (earlier : List (List Paired)) (past : List Paired) (pair : Paired) → ArePermittedBehind profile earlier (past ++ pair ∷ [])
    → fits profile (visible_behind past) (asked_at pair.place) pair.response ≡ true
permitted_fits profile earlier past pair permitted =
    let ps = asked_of past in
    let answers = responses_of past in
    let asked = asked_at pair.place in
    let more = subst (λ q. SomePermitsEach profile (map exchanged earlier ++ q ∷ [])) (with_pair past pair) permitted in
    let run = (all_back (Runs profile more.0) (map exchanged earlier) (of_these (ps ++ asked ∷ []) (answers ++ pair.response ∷ []) ∷ []) more.2).0 in
    ap (λ v. fits profile v asked pair.response) (sym (visible_longer start.visible ps (asked ∷ []) answers (as_few past)))
    ∙ run_fits profile more.0 start (ps ++ asked ∷ []) answers asked pair.response (next_behind ps [] asked answers (as_many past)) run

pub consistent_accepted : (profile : Profile) (earlier : List (List Paired)) (past : List Paired) (pair : Paired) (old new : FactsKept) (before after : Unpaired)
    → IsNotedBehind profile earlier past pair old new Consistent → IsNext before pair after → IsJudged (ArePermittedBehind profile earlier) past before (Accepted pair) after
consistent_accepted profile earlier past pair old new before after noted next = (next, noted.0)

pub unfit_refused : (profile : Profile) (earlier : List (List Paired)) (past : List Paired) (pair : Paired) (old new : FactsKept) (before after : Unpaired) → HasNotedBehind profile old earlier past
    → IsNotedBehind profile earlier past pair old new NotedOutOfPlace → IsNext before pair after
    → IsJudged (ArePermittedBehind profile earlier) past before (Refused pair) after × (class_behind profile past (Refused pair) ≡ Some OutOfPlace)
unfit_refused profile earlier past pair old new before after stands noted next = grind (arith, true≢false, permitted_fits profile earlier past pair, stands.visible)

pub contradiction_refused : (profile : Profile) (earlier : List (List Paired)) (past : List Paired) (pair : Paired) (old new : FactsKept) (before after : Unpaired)
    → HasNotedBehind profile old earlier past
    → IsNotedBehind profile earlier past pair old new NotedContradiction → IsNext before pair after
    → IsJudged (ArePermittedBehind profile earlier) past before (Refused pair) after × (class_behind profile past (Refused pair) ≡ Some Contradiction)
contradiction_refused profile earlier past pair old new before after stands noted next = grind arith
