-- The answers of two streams as they are judged from the first on.
use Rattle.std.proofs.Common.{◌≡◌, ℕ, ◌≤◌, List, [], ◌∷◌, ◌++◌, length, subst, arith}
use Rattle.nntp_article.specs.declared.session.profile.Profile.{Profile}
use Rattle.nntp_pair.specs.Pairing.{Unpaired, asked_of, responses_of, streams}
use Rattle.nntp_theory.specs.{Given.{facts_of_session}, Inner.Given.{size}, Permitted.{exchanged, ArePermitted}, Reading.{Judged, accepted_of, accepted_with}}
use Rattle.nntp_theory.{specs.Reading.{IsJudged, AreJudged}, proofs.Given.{FirstBadAnswer.{none_permitted}, SessionsByFacts.{permits_alone}}}
use Rattle.nntp_theory.proofs.{Ids.SizeOfASession.{session_size}, Reading.JudgedAnswers.{accepted_behind, judged_push, accepted_push, judged_count}}
use Rattle.nntp_theory.proofs.Reading.JudgedAnswers.{accepted_stand, accepted_light}
use Rattle.nntp_wire.specs.Session.{ClientStream}

-- no pairs are permitted
pub none_accepted : (profile : Profile) → ArePermitted profile []
none_accepted profile = (permits_alone profile (exchanged [])).1 (none_permitted profile [] [])

pub permitted_in_session : (profile : Profile) (client : ClientStream) (server : List ℕ) (answers : List Judged) (left : Unpaired)
    → AreJudged (ArePermitted profile) [] (streams client server) answers left → ArePermitted profile (accepted_of answers)
permitted_in_session profile client server answers left judged =
    subst (ArePermitted profile) (accepted_behind [] answers) (accepted_stand (ArePermitted profile) [] (streams client server) left answers (none_accepted profile) judged)

pub size_in_session : (profile : Profile) (client : ClientStream) (server : List ℕ) (answers : List Judged) (left : Unpaired) → AreJudged (ArePermitted profile) [] (streams client server) answers left
    → size (facts_of_session profile.marks (asked_of (accepted_of answers)) (responses_of (accepted_of answers))) ≤ length server
size_in_session profile client server answers left judged = grind (arith, session_size, accepted_light)

-- one answer more
pub one_more_in_session : (profile : Profile) (client : ClientStream) (server : List ℕ) (answers : List Judged) (answer : Judged) (left after : Unpaired)
    → AreJudged (ArePermitted profile) [] (streams client server) answers left → IsJudged (ArePermitted profile) (accepted_of answers) left answer after
    → AreJudged (ArePermitted profile) [] (streams client server) (answers ++ answer ∷ []) after
one_more_in_session profile client server answers answer left after judged is = search (arith, judged_push, accepted_behind)

pub accepted_one_more : (answers : List Judged) (answer : Judged) → accepted_of (answers ++ answer ∷ []) ≡ accepted_with (accepted_of answers) answer
accepted_one_more answers answer = grind (arith, accepted_behind [] (answers ++ answer ∷ []), accepted_push [] answers answer, accepted_behind [] answers)

pub index_in_session : (profile : Profile) (client : ClientStream) (server : List ℕ) (answers : List Judged) (left : Unpaired)
    → AreJudged (ArePermitted profile) [] (streams client server) answers left → left.index ≡ length answers
index_in_session profile client server answers left judged = let count = judged_count (ArePermitted profile) [] (streams client server) left answers judged in omega (arith, count)
