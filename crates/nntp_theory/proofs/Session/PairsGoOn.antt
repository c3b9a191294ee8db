-- One pair more behind those of a session: what it asks and answers, says and leaves, and when it is permitted.
use Rattle.nntp_wire.specs.{declared.marks.Marks.{Marks}, Answer.{Asked, Response}}
use Rattle.std.proofs.{Common.{◌≡◌, ◌<◌, ◌^◌, ◌↔◌, false, IsTrue, List, [], ◌∷◌, ◌++◌, length, sym, ap, ap₂, ◌∙◌, arith}, lemmas.List.{length-map, map-append}}
use Rattle.nntp_article.specs.{Session.{Spool.{Spool}, Machine.{Visible, Run, start, fits, visible_after}}, declared.session.profile.Profile.{Profile}}
use Rattle.nntp_pair.specs.Pairing.{Paired, asked_at, asked_of, responses_of}
use Rattle.nntp_said.specs.{Asks.{position_after}, declared.position.Position.{Position, TheVariants.{Nowhere}}, Facts.{Fact, facts_of}}
use Rattle.nntp_theory.specs.{Given.{facts_of_session}, Inner.{Given.{size}, Together.{Join}}, Answered.{Answered, SomePermitsEach, facts_of_all}}
use Rattle.nntp_theory.{specs.{Classes.{visible_from, position_from}, Permitted.{exchanged}}, proofs.Members.{all_both, all_front, all_back}}
use Rattle.nntp_theory.proofs.Session.{LaterPrompts.{run_longer, facts_longer, visible_longer, position_longer, next_behind}, OneMoreAnswer.{facts_grow}}
use Rattle.nntp_theory.proofs.{Session.OneMoreAnswer.{visible_grows, position_grows}, Given.SessionsGoOn.{permitted_more_behind}}

-- an answer to this may come behind what was said, as far as the state, the position and the facts go
abbrev pub MayFollow : Profile → Visible → Position → List Fact → Asked → Response → Type 0
MayFollow profile v at facts asked response = (v.closed ≡ false) × IsTrue (fits profile v asked response) × Join facts (facts_of profile.marks v at asked response)

-- a session of these prompts and answers
abbrev pub of_these : List Asked → List Response → Answered
of_these ps answers = record { prompts = ps; answers = answers }

-- a spool permits a session
abbrev pub Runs : Profile → Spool → Answered → Type 0
Runs profile S s = Run profile S start s.prompts s.answers

-- some spool permits one prompt and its answer more exactly if it may follow
pub permitted_next : (profile : Profile) (earlier : List Answered) (ps : List Asked) (answers : List Response) (asked : Asked) (response : Response) → length ps ≡ length answers
    → size (facts_of_all profile.marks (earlier ++ of_these (ps ++ asked ∷ []) (answers ++ response ∷ []) ∷ [])) < 2 ^ 210 → SomePermitsEach profile (earlier ++ of_these ps answers ∷ [])
    → SomePermitsEach profile (earlier ++ of_these (ps ++ asked ∷ []) (answers ++ response ∷ []) ∷ [])
    ↔ MayFollow profile (visible_from start.visible ps answers) (position_from Nowhere ps answers) (facts_of_all profile.marks earlier ++ facts_of_session profile.marks ps answers) asked response
permitted_next profile earlier ps answers asked response e small h =
    let own = run_longer profile h.0 start ps (asked ∷ []) answers in
    let g : SomePermitsEach profile (earlier ++ of_these (ps ++ asked ∷ []) answers ∷ []) =
    (h.0, h.1, grind (arith, all_front (Runs profile h.0), all_back (Runs profile h.0), all_both (Runs profile h.0), own)) in
    grind (arith, permitted_more_behind profile earlier (ps ++ asked ∷ []) answers asked response (next_behind ps [] asked answers e) small g, visible_longer, position_longer, facts_longer)

-- what is said then
pub facts_next : (how : Marks) (ps : List Asked) (answers : List Response) (asked : Asked) (response : Response) → length ps ≡ length answers
    → facts_of_session how (ps ++ asked ∷ []) (answers ++ response ∷ []) ≡ facts_of_session how ps answers ++ facts_of how
    (visible_from start.visible ps answers) (position_from Nowhere ps answers) asked response
facts_next how ps answers asked response e = grind (arith, facts_grow how start.visible Nowhere (ps ++ asked ∷ []) answers asked response, next_behind, facts_longer, visible_longer, position_longer)

-- what is visible then
pub visible_next : (ps : List Asked) (answers : List Response) (asked : Asked) (response : Response) → length ps ≡ length answers
    → visible_from start.visible (ps ++ asked ∷ []) (answers ++ response ∷ []) ≡ visible_after (visible_from start.visible ps answers) asked response
visible_next ps answers asked response e = grind (arith, visible_grows start.visible (ps ++ asked ∷ []) answers asked response, next_behind, visible_longer)

-- and where the session stands then
pub position_next : (ps : List Asked) (answers : List Response) (asked : Asked) (response : Response) → length ps ≡ length answers
    → position_from Nowhere (ps ++ asked ∷ []) (answers ++ response ∷ []) ≡ position_after (position_from Nowhere ps answers) asked response
position_next ps answers asked response e = grind (arith, position_grows Nowhere (ps ++ asked ∷ []) answers asked response, next_behind, position_longer)

-- there are as many prompts as answers
pub as_many : (past : List Paired) → length (asked_of past) ≡ length (responses_of past)
as_many past = length-map past (λ pair. asked_at pair.place) ∙ sym (length-map past (λ pair. pair.response))

-- the prompts and answers of one exchange more
pub ends : (past : List Paired) (pair : Paired)
    → ◌≡◌ {A = List Asked × List Response} (asked_of (past ++ pair ∷ []), responses_of (past ++ pair ∷ [])) (asked_of past ++ asked_at pair.place ∷ [], responses_of past ++ pair.response ∷ [])
ends past pair = ap₂ (λ (ps : List Asked) (answers : List Response). (ps, answers)) (map-append (λ pair. asked_at pair.place) past (pair ∷ [])) (map-append (λ pair. pair.response) past (pair ∷ []))

-- and the session with it
pub with_pair : (past : List Paired) (pair : Paired) → exchanged (past ++ pair ∷ []) ≡ of_these (asked_of past ++ asked_at pair.place ∷ []) (responses_of past ++ pair.response ∷ [])
with_pair past pair = ap (λ (q : List Asked × List Response). of_these q.0 q.1) (ends past pair)
