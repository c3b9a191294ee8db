-- Answers one by one: what one more says, and what pairs say.
use Rattle.nntp_wire.specs.{declared.marks.Marks.{Marks}, Answer.{Asked, Response}, Session.{prompts_of, Spelled, ClientStream}}
use Rattle.std.proofs.Common.{◌≡◌, ℕ, ◌≤◌, ◌↔◌, false, IsTrue, List, [], ◌∷◌, ◌++◌, map, length, Some, sym, ap, ◌∙◌, arith, append_assoc, append-nil}
use Rattle.std.proofs.lemmas.List.{length-map}
use Rattle.nntp_article.specs.{Session.{Spool.{Spool}, Machine.{Visible, Run, start, fits, visible_after}}, declared.session.profile.Profile.{Profile}}
use Rattle.nntp_said.specs.{Asks.{position_after}, declared.position.Position.{Position}, Facts.{facts_of, facts_from}, Inner.Facts.{FitsAll}}
use Rattle.nntp_theory.specs.{Given.{facts_of_session}, Inner.{Given.{size}, Permits.{SomePermits}}, Classes.{visible_from, position_from, asked_next}}
use Rattle.nntp_theory.proofs.{Ids.SizeOfASession.{session_size}, Streams.ExplainedOrBad.{light}, Session.LaterPrompts.{run_shorter, run_longer, facts_longer}}
use Rattle.nntp_pair.{specs.Pairing.{Paired, Unpaired, AreNext, responses_of, asked_of, asked_at, streams}, proofs.SpelledLemmas.{places-prompts}}

-- ---- one answer more

-- what it says stands behind what those before say
pub facts_grow : (how : Marks) (v : Visible) (at : Position) (ps : List Asked) (answers : List Response) (asked : Asked) (response : Response) → asked_next ps answers ≡ Some asked
    → facts_from how v at ps (answers ++ response ∷ []) ≡ facts_from how v at ps answers ++ facts_of how (visible_from v ps answers) (position_from at ps answers) asked response
facts_grow how v at (p ∷ ps) (a ∷ more) asked response e = grind (arith, append_assoc, facts_grow how (visible_after v p a) (position_after at p a) ps more asked response e)
facts_grow how v at (p ∷ (q ∷ ps)) [] asked response e = grind (arith, append-nil)
facts_grow how v at ps answers asked response e = grind (arith, append-nil)

-- what it leaves visible
pub visible_grows : (v : Visible) (ps : List Asked) (answers : List Response) (asked : Asked) (response : Response) → asked_next ps answers ≡ Some asked
    → visible_from v ps (answers ++ response ∷ []) ≡ visible_after (visible_from v ps answers) asked response
visible_grows v (p ∷ ps) (a ∷ more) asked response e = visible_grows (visible_after v p a) ps more asked response e
visible_grows v ps answers asked response e = cc

-- and where it leaves the session
pub position_grows : (at : Position) (ps : List Asked) (answers : List Response) (asked : Asked) (response : Response) → asked_next ps answers ≡ Some asked
    → position_from at ps (answers ++ response ∷ []) ≡ position_after (position_from at ps answers) asked response
position_grows at (p ∷ ps) (a ∷ more) asked response e = position_grows (position_after at p a) ps more asked response e
position_grows at ps answers asked response e = cc

-- it fits what those before leave
pub fitting_grows : (profile : Profile) (v : Visible) (ps : List Asked) (answers : List Response) (asked : Asked) (response : Response) → asked_next ps answers ≡ Some asked
    → FitsAll profile v ps (answers ++ response ∷ []) ↔ (FitsAll profile v ps answers × ((visible_from v ps answers).closed ≡ false) × IsTrue (fits profile (visible_from v ps answers) asked response))
fitting_grows profile v (p ∷ ps) (a ∷ more) asked response e = grind (arith, fitting_grows profile (visible_after v p a) ps more asked response e)
fitting_grows profile v ps answers asked response e = grind arith

-- ---- pairs

-- pairs answer the first of the places
asked_places : (before left : Unpaired) (pairs : List Paired) → AreNext before pairs left → map asked_at before.places ≡ asked_of pairs ++ map asked_at left.places
asked_places before left [] e = ap (λ (u : Unpaired). map asked_at u.places) e
asked_places before left (pair ∷ pairs) (between, first, more) = ap (λ ps. map asked_at ps) first.place ∙ ap (λ ps. asked_at pair.place ∷ ps) (asked_places between left pairs more)

-- and so the first of the prompts
pub prompts_of_pairs : (client : ClientStream) (server : List ℕ) (pairs : List Paired) (left : Unpaired)
    → AreNext (streams client server) pairs left → (more : List Asked) × (prompts_of client ≡ asked_of pairs ++ more)
prompts_of_pairs client server pairs left paired = (map asked_at left.places, sym (places-prompts client) ∙ asked_places (streams client server) left pairs paired)

-- there is one for each response
pub as_few : (pairs : List Paired) → length (responses_of pairs) ≤ length (asked_of pairs)
as_few pairs = omega (arith, length-map pairs (λ pair. pair.response), length-map pairs (λ pair. asked_at pair.place))

-- to permit the responses asks for these prompts alone
pub pairs_run : (profile : Profile) (S : Spool) (client : ClientStream) (server : List ℕ) (pairs : List Paired) (left : Unpaired) → AreNext (streams client server) pairs left
    → Run profile S start (prompts_of client) (responses_of pairs) ↔ Run profile S start (asked_of pairs) (responses_of pairs)
pairs_run profile S client server pairs left paired = grind (arith, prompts_of_pairs, run_shorter, as_few, run_longer)

-- of some spool, too
pub pairs_permitted : (profile : Profile) (client : ClientStream) (server : List ℕ) (pairs : List Paired) (left : Unpaired) → AreNext (streams client server) pairs left
    → SomePermits profile (prompts_of client) (responses_of pairs) ↔ SomePermits profile (asked_of pairs) (responses_of pairs)
pairs_permitted profile client server pairs left paired = (
  λ h. (h.0, h.1, (pairs_run profile h.0 client server pairs left paired).0 h.2),
  λ h. (h.0, h.1, (pairs_run profile h.0 client server pairs left paired).1 h.2),
)

-- and what they say is said by these alone
pub facts_by_pairs : (how : Marks) (client : ClientStream) (server : List ℕ) (pairs : List Paired) (left : Unpaired) → AreNext (streams client server) pairs left
    → facts_of_session how (prompts_of client) (responses_of pairs) ≡ facts_of_session how (asked_of pairs) (responses_of pairs)
facts_by_pairs how client server pairs left paired = grind (arith, prompts_of_pairs, facts_longer, as_few)

-- ---- octets

-- what answers say is bounded by the octets that spell them
pub size_by_octets : (how : Marks) (ps : List Asked) (answers : List Response) (octets : List ℕ) → Spelled ps answers octets → size (facts_of_session how ps answers) ≤ length octets
size_by_octets how ps answers octets spelled = let a = session_size how ps answers in let b = light ps answers octets spelled in omega arith
