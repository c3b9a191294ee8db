-- Pairs are spelled one after the other, and what is so spelled is paired.
use Rattle.std.proofs.Common.{arith, ◌≡◌, ℕ, ◌+◌, List, [], ◌∷◌, ◌++◌, map, Some, Bool, false, refl, sym, ◌∙◌, ap, subst, append_assoc}
use Rattle.std.{proofs.lemmas.List.{append-nil, map-append}, specs.Prelude.{⊤, count_by}}
use Rattle.nntp_wire.specs.{Answer.{Asked, Response, greeting, to}, Command.{request_as}, Frame.{frame_octets}, Lines.{lines_of_stream}, Session.{closes}}
use Rattle.nntp_wire.specs.{Session.{prompts_of, ClientStream}, Inner.Session.{AreSpelled, StaysOpen}, declared.overviews.Overviews.{Overviews}}
use Rattle.nntp_wire.proofs.SpellLemmas.{spelling-frame}
use Rattle.nntp_pair.specs.{declared.class.PairClass.{PairClass}, Pairing.{Paired, Unpaired, AreNext, Ending, end, bad, IsPairing, responses_of, streams}}
use Rattle.nntp_pair.{specs.{Pairing.{asked_at, places_of, Place, place_of, has_line}, Inner.Pairing.{HasPairs}}, proofs.NextLemmas.{next-no-end}}
use Rattle.nntp_pair.proofs.PairingLemmas.{first-pairs}

-- what is asked at the places of a client
map-asked : (overviews : Overviews) (lines : List (List ℕ)) → map asked_at (map (place_of overviews) (map Some lines)) ≡ map (λ line. to (request_as overviews line)) lines
map-asked overviews [] = refl
map-asked overviews (line ∷ lines) = ap (λ t. to (request_as overviews line) ∷ t) (map-asked overviews lines)

pub places-prompts : (client : ClientStream) → map asked_at (places_of client) ≡ prompts_of client
places-prompts client = ap (λ t. greeting ∷ t) (map-asked client.overviews (lines_of_stream client.octets))

-- pairs are spelled
run-spelled : (pairs : List Paired) (a b : Unpaired) → AreNext a pairs b → AreSpelled (map asked_at a.places) (responses_of pairs) a.server b.server
run-spelled [] a b same = ([], refl, ap (λ u. u.server) same)
run-spelled (x ∷ pairs) a b (m, n, run) =
    let more = run-spelled pairs m b run in
    let front = frame_octets x.initial n.answered.block in
    subst (λ places. AreSpelled (map asked_at places) (responses_of (x ∷ pairs)) a.server b.server) (sym n.place)
    (front ++ more.0, (front, more.0, n.answered.spells, more.1, refl), n.answered.frame.whole ∙ ap (λ o. front ++ o) more.2 ∙ sym (append_assoc front more.0 b.server))

-- none but the last closes
run-open : (pairs : List Paired) (a b : Unpaired) → AreNext a pairs b → StaysOpen (map asked_at a.places) (responses_of pairs)
run-open [] a b same = tt
run-open (x ∷ []) a b run = tt
run-open (x ∷ y ∷ pairs) a b (m, n, (k, o, run)) = grind (arith, run-open (y ∷ pairs) m b (k, o, run))

-- the connection is open where a response is left
abbrev IsOpenFor : Bool → List Response → Type 0
IsOpenFor is_closed [] = ⊤
IsOpenFor is_closed (response ∷ responses) = is_closed ≡ false

open-tail : (asked : Asked) (prompts : List Asked) (response : Response) (responses : List Response)
    → StaysOpen (asked ∷ prompts) (response ∷ responses) → IsOpenFor (closes asked response) responses
    × StaysOpen prompts responses
open-tail asked prompts response [] stays = (tt, tt)
open-tail asked prompts response (next ∷ responses) stays = (stays.0, stays.1)

-- what is spelled is paired
spelled-run : (responses : List Response) (index : ℕ) (places : List Place) (server rest : List ℕ) (is_closed : Bool) → IsOpenFor is_closed responses
    → AreSpelled (map asked_at places) responses server rest → StaysOpen (map asked_at places) responses
    → HasPairs (record { index = index; places = places; server = server; is_closed = is_closed }) responses rest
spelled-run [] index places server rest is_closed is_open (octets, none, whole) stays = grind arith
spelled-run (response ∷ responses) index [] server rest is_closed is_open spelled stays = absurd spelled.1
spelled-run (response ∷ responses) index (place ∷ places) server rest is_closed is_open (octets, (front, tail_octets, spells, spelled, both), all) stays =
    let behind = tail_octets ++ rest in
    let whole : server ≡ front ++ behind = all ∙ ap (λ o. o ++ rest) both ∙ append_assoc front tail_octets rest in
    let found = spelling-frame (asked_at place) response front behind spells in
    let tail = open-tail (asked_at place) (map asked_at places) response responses stays in
    let more = spelled-run responses (index + 1) places behind rest (closes (asked_at place) response) tail.0 (tail_octets, spelled, refl) tail.1 in (
      record { index = index; place = place; initial = found.0; response = response } ∷ more.0,
      more.1,
      grind arith,
      ap (λ t. response ∷ t) more.3,
      more.4,
    )

-- the pairs of two streams are spelled
pub pairs-spelled : (client : ClientStream) (server : List ℕ) (pairs : List Paired) (left : Unpaired) → AreNext (streams client server) pairs left
    → AreSpelled (prompts_of client) (responses_of pairs) server left.server × StaysOpen (prompts_of client) (responses_of pairs)
pairs-spelled client server pairs left run = grind (arith, places-prompts, run-spelled, run-open)

-- and what is so spelled is their pairs
pub spelled-pairs : (client : ClientStream) (server : List ℕ) (responses : List Response) (rest : List ℕ) → AreSpelled (prompts_of client) responses server rest
    → StaysOpen (prompts_of client) responses
    → HasPairs (streams client server) responses rest
spelled-pairs client server responses rest spelled stays = grind (arith, spelled-run, places-prompts)

-- responses that are spelled are the first of the pairing's
pub spelled-first : (client : ClientStream) (server : List ℕ) (pairs : List Paired) (ending : Ending) (responses : List Response) (rest : List ℕ) → IsPairing client server pairs ending
    → AreSpelled (prompts_of client) responses server rest → StaysOpen (prompts_of client) responses → (more : List Response) × (responses_of pairs ≡ responses ++ more)
spelled-first client server pairs ending responses rest pairing spelled stays =
    let found = spelled-pairs client server responses rest spelled stays in
    let first = first-pairs pairs found.0 (streams client server) pairing.left found.1 ending pairing.paired pairing.ends found.2 in
    (responses_of first.0, ap responses_of first.1 ∙ map-append (λ pair. pair.response) found.0 first.0 ∙ ap (λ t. t ++ responses_of first.0) found.3)

-- nothing comes next where no octet is left
run-none : (pairs : List Paired) (a b : Unpaired) → a.server ≡ [] → AreNext a pairs b → (pairs ≡ []) × (a ≡ b)
run-none [] a b none same = (refl, same)
run-none (x ∷ pairs) a b none (m, n, run) = absurd (next-no-end (end (count_by has_line a.places)) a m x n (none, refl))

-- responses whose spellings are all octets are those of the pairing, which ends with no octet left
pub spelled-whole : (client : ClientStream) (server : List ℕ) (pairs : List Paired) (ending : Ending) (responses : List Response) → IsPairing client server pairs ending
    → AreSpelled (prompts_of client) responses server [] → StaysOpen (prompts_of client) responses
    → (responses_of pairs ≡ responses) × (unanswered : ℕ) × (ending ≡ end unanswered)
spelled-whole client server pairs ending responses pairing spelled stays =
    let found = spelled-pairs client server responses [] spelled stays in
    grind (arith, first-pairs, run-none, map-append, append-nil)

-- so where the pairing ends at octets, no responses have them all as their spellings
pub bad-unspelled : (client : ClientStream) (server : List ℕ) (pairs : List Paired) (class : PairClass) (responses : List Response) → IsPairing client server pairs (bad class)
    → StaysOpen (prompts_of client) responses → ¬ (AreSpelled (prompts_of client) responses server [])
bad-unspelled client server pairs class responses pairing stays spelled =
    let whole = spelled-whole client server pairs (bad class) responses pairing spelled stays in
    grind arith
