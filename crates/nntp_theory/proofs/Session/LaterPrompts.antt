-- Prompts behind those that are answered: they change nothing.
use Rattle.nntp_wire.specs.{declared.marks.Marks.{Marks}, Command.{request_as}, Lines.{lines_of_stream}, Answer.{Asked, Response, greeting, to}}
use Rattle.nntp_wire.{specs.Session.{prompts_of, Spelled, ClientStream, further}, proofs.StreamLemmas.{lines-joined}}
use Rattle.std.proofs.{Common.{◌≡◌, ◌↔◌, ℕ, ◌≤◌, List, [], ◌∷◌, ◌++◌, length, map, Some, refl, ap, ◌∙◌, arith}, lemmas.List.{map-append}}
use Rattle.nntp_article.specs.{declared.session.profile.Profile.{Profile}, Session.{Spool.{Spool}, Machine.{Visible, State, Run, start, visible_after}}}
use Rattle.nntp_said.specs.{Asks.{position_after}, declared.position.Position.{Position}, Facts.{facts_of, facts_from}}
use Rattle.nntp_theory.specs.{Classes.{visible_from, position_from, asked_next}, Inner.Permits.{SomePermits}}

-- octets behind the client's leave its prompts
pub prompts_joined : (client : ClientStream) (more : List ℕ) → (later : List Asked) × (prompts_of (further client more) ≡ prompts_of client ++ later)
prompts_joined client more =
    let l = lines-joined client.octets more in
    let asked = λ (line : List ℕ). to (request_as client.overviews line) in
    (map asked l.0, ap (λ lines. greeting ∷ map asked lines) l.1 ∙ ap (λ ps. greeting ∷ ps) (map-append asked (lines_of_stream client.octets) l.0))

-- answers are spelled behind these prompts, whatever prompts follow
pub spelled_longer : (ps qs : List Asked) (answers : List Response) (octets : List ℕ) → Spelled ps answers octets → Spelled (ps ++ qs) answers octets
spelled_longer ps qs [] octets s = s
spelled_longer [] qs (a ∷ more) octets s = absurd s
spelled_longer (p ∷ ps) qs (a ∷ more) octets (b, rest, s, tail, whole) = (b, rest, s, spelled_longer ps qs more rest tail, whole)

-- and permitted
pub run_longer : (profile : Profile) (S : Spool) (s : State) (ps qs : List Asked) (answers : List Response) → Run profile S s ps answers → Run profile S s (ps ++ qs) answers
run_longer profile S s ps qs [] r = tt
run_longer profile S s [] qs (a ∷ more) r = absurd r
run_longer profile S s (p ∷ ps) qs (a ∷ more) (new, permits, rest) = (new, permits, run_longer profile S new ps qs more rest)

-- a run asks for no more prompts than answers
pub run_shorter : (profile : Profile) (S : Spool) (s : State) (ps qs : List Asked) (answers : List Response)
    → length answers ≤ length ps → Run profile S s (ps ++ qs) answers → Run profile S s ps answers
run_shorter profile S s ps qs [] le r = tt
run_shorter profile S s [] qs (a ∷ more) le r = absurd (omega arith)
run_shorter profile S s (p ∷ ps) qs (a ∷ more) le (new, permits, rest) = (new, permits, run_shorter profile S new ps qs more (omega arith) rest)

-- there is a prompt for each answer
pub spelled_count : (ps : List Asked) (answers : List Response) (octets : List ℕ) → Spelled ps answers octets → length answers ≤ length ps
spelled_count ps [] octets s = omega arith
spelled_count [] (a ∷ more) octets s = absurd s
spelled_count (p ∷ ps) (a ∷ more) octets (b, rest, s, tail, whole) = let le = spelled_count ps more rest tail in omega arith

-- the visible state is left by the answers' prompts alone
pub visible_longer : (v : Visible) (ps qs : List Asked) (answers : List Response) → length answers ≤ length ps → visible_from v (ps ++ qs) answers ≡ visible_from v ps answers
visible_longer v ps qs [] le = refl
visible_longer v [] qs (a ∷ more) le = absurd (omega arith)
visible_longer v (p ∷ ps) qs (a ∷ more) le = visible_longer (visible_after v p a) ps qs more (omega arith)

-- and where the session stands is
pub position_longer : (at : Position) (ps qs : List Asked) (answers : List Response) → length answers ≤ length ps → position_from at (ps ++ qs) answers ≡ position_from at ps answers
position_longer at ps qs [] le = refl
position_longer at [] qs (a ∷ more) le = absurd (omega arith)
position_longer at (p ∷ ps) qs (a ∷ more) le = position_longer (position_after at p a) ps qs more (omega arith)

-- what is asked next stays
pub asked_longer : (ps qs : List Asked) (answers : List Response) (asked : Asked) → asked_next ps answers ≡ Some asked → asked_next (ps ++ qs) answers ≡ Some asked
asked_longer (p ∷ ps) qs (a ∷ more) asked e = asked_longer ps qs more asked e
asked_longer ps qs answers asked e = cc

-- and so some spool permits the answers with them, or none does
pub permitted_longer : (profile : Profile) (ps qs : List Asked) (answers : List Response) → length answers ≤ length ps → SomePermits profile (ps ++ qs) answers ↔ SomePermits profile ps answers
permitted_longer profile ps qs answers le = (
  λ h. (h.0, h.1, run_shorter profile h.0 start ps qs answers le h.2),
  λ h. (h.0, h.1, run_longer profile h.0 start ps qs answers h.2),
)

-- what is said is said by the answers' prompts alone
pub facts_longer : (how : Marks) (v : Visible) (at : Position) (ps qs : List Asked) (answers : List Response)
    → length answers ≤ length ps → facts_from how v at (ps ++ qs) answers ≡ facts_from how v at ps answers
facts_longer how v at [] [] [] le = refl
facts_longer how v at (p ∷ ps) qs (a ∷ answers) le = ap (λ rest. facts_of how v at p a ++ rest) (facts_longer how (visible_after v p a) (position_after at p a) ps qs answers (omega arith))
facts_longer how v at ps qs answers le = grind arith

-- the one behind them is asked next
pub next_behind : (ps more : List Asked) (asked : Asked) (answers : List Response) → length ps ≡ length answers → asked_next (ps ++ asked ∷ more) answers ≡ Some asked
next_behind (p ∷ ps) more asked (a ∷ answers) e = next_behind ps more asked answers (omega arith)
next_behind ps more asked answers e = grind arith
