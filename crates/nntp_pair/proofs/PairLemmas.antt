-- What the parts of a pairing say of the whole.
use Rattle.std.proofs.Common.{◌≡◌, ℕ, ◌<◌, ◌≤◌, ◌^◌, List, [], ◌∷◌, Option, Some, Bool, refl, sym, ap, subst, ◌∙◌, length, map, count_by, ◌+◌, arith, get_or}
use Rattle.std.proofs.{Common.{Fits, w8, length-append, ◌++◌}, lemmas.List.Sums.{sum_by-cons}}
use Rattle.nntp_wire.specs.{Lines.{lines_of_stream}, Inner.{Octets.{are_octets}, Frame.{FrameParts, IsFrame}}, Answer.{Asked, Response, numbers_are, Spells}}
use Rattle.nntp_wire.{specs.{Frame.{HasFrame, frame_octets}, Session.{ClientStream}, declared.overviews.Overviews.{Overviews}}, proofs.OctetLemmas.{octets-fit}}
use Rattle.nntp_wire.proofs.{OctetLemmas.{octets-parts}, SpellsDecided.{spelling-long}}
use Rattle.nntp_pair.specs.{Pairing.{IsMalformed, asked_at, Place, place_of, has_line}, Inner.Pairing.{IsSpelled, lines_in, places_from}}

-- a spelling has three octets, and one for each line
pub lines-few : (asked : Asked) (response : Response) (octets : List ℕ) → Spells asked response octets → lines_in response + 3 ≤ length octets
lines-few asked (numbers_are m name lines) octets s = spelling-long asked (numbers_are m name lines) octets s
lines-few asked response octets s = search (arith, spelling-long)

-- what the front of a slice spells is spelled in octets, and has fewer lines than these
pub spelled : (place : Place) (server initial : List ℕ) (block : Option (List ℕ)) (rest : List ℕ) (response : Response) (asked : Asked) → asked ≡ asked_at place
    → HasFrame asked server initial block rest → Spells asked response (frame_octets initial block) → ((i : ℕ) → Fits w8 (get_or server i 0)) → length server < 2 ^ 64
    → IsSpelled place initial response × (lines_in response < 2 ^ 64)
spelled place server initial block rest response asked same has spells fit small =
    let front = octets-parts (frame_octets initial block) rest (sym (ap are_octets has.whole) ∙ octets-fit server fit) in
    let lines = lines-few asked response (frame_octets initial block) spells in
    grind (arith, length-append)

-- a frame that spells nothing
pub malformed : (place : Place) (server initial : List ℕ) (block : Option (List ℕ)) (rest : List ℕ) (asked : Asked) → asked ≡ asked_at place
    → HasFrame asked server initial block rest → ((response : Response) → ¬ (Spells asked response (frame_octets initial block))) → IsMalformed (asked_at place) server
malformed place server initial block rest asked same has nothing =
    record {
      initial = initial;
      block = block;
      rest = rest;
      frame = subst (λ a. HasFrame a server initial block rest) same has;
      nothing = λ response. subst (λ a. ¬ (Spells a response (frame_octets initial block))) same (nothing response);
    }

some-count : (overviews : Overviews) (lines : List (List ℕ)) → count_by has_line (map (place_of overviews) (map Some lines)) ≡ length lines
some-count overviews [] = refl
some-count overviews (line ∷ lines) = search (arith, sum_by-cons, some-count overviews lines)

-- the places with a line are those of the client's lines
pub lines-count : (is_greeted : Bool) (client : ClientStream) → count_by has_line (places_from is_greeted client) ≡ length (lines_of_stream client.octets)
lines-count is_greeted client = grind (arith, some-count)

-- ---- a frame at the front

-- it is no longer than the octets
pub frame-within : {asked : Asked} {server rest : List ℕ} (frame : FrameParts) {len : ℕ} → HasFrame asked server frame.initial frame.block rest → len ≡ frame.len → IsFrame frame → len ≤ length server
frame-within {server = server} {rest = rest} frame has value is =
    let whole : length server ≡ length (frame_octets frame.initial frame.block ++ rest) = ap length has.whole in
    let size : frame.len ≡ length (frame_octets frame.initial frame.block) = is.len_is in
    omega (arith, length-append (frame_octets frame.initial frame.block) rest)
