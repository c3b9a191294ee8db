-- What a feed holds, and how it goes on with more octets and behind an exchange.
use Rattle.std.proofs.Common.{◌≡◌, ◌≢◌, ℕ, ◌+◌, ◌-◌, ◌*◌, ◌^◌, ◌<◌, ◌≤◌, List, [], ◌∷◌, ◌++◌, length, drop, arith, Option, None, Some, Bool, true, false, refl}
use Rattle.std.proofs.{Common.{sym, ◌∙◌, ap, subst, append_assoc, length-append, MatchOption, inl, inr}, lemmas.{List.{append-nil, drop_at}, Bool.{false≢true}}}
use Rattle.std.{proofs.lemmas.Bool.{eqb-true, eqb-false}, specs.Prelude.{◌==◌, nat_lt, ⊤}}
use Rattle.nntp_wire.specs.{Octets.{crlf}, Lines.{HasNoCrlf}, Answer.{Asked, Response, Spells}, Frame.{HasFrame, frame_octets}, Inner.Prompts.{prompt_kind}}
use Rattle.nntp_wire.specs.{Inner.{Search.{IsFrameThrough}, Frame.{FrameParts, IsFrame}}, Session.{closes, ClientStream, further, taken}}
use Rattle.nntp_wire.{specs.declared.framing.FrameSearch.{FrameSearch}, proofs.SearchLemmas.{line_searched-more, frame_searched-more}}
use Rattle.nntp_wire.proofs.{SpellLemmas.{one-frame}, StreamLemmas.{lines-first}}
use Rattle.nntp_pair.specs.declared.{class.PairClass.{PairClass, TheVariants.{Surplus, Malformed}}, searches.Searches.{Searches}}
use Rattle.nntp_pair.specs.{declared.{octet_counts.OctetCounts.{OctetCounts}, side.Side.{Side, TheVariants.{Server}}}, Pairing.{Paired, Unpaired, IsNext}}
use Rattle.nntp_pair.specs.{Pairing.{IsAnswered, Awaits, IsBad, IsCut, IsMalformed, streams, asked_at, HasNext, Place, place_of}, Inner.Pairing.{places_from}}
use Rattle.nntp_pair.specs.Inner.{Feeding.{Fed, IsFed, EndsForGood, left_of, with_octets}, Sides.{given, count_of}, Searching.{left_from, BeginsWithPlace}}
use Rattle.nntp_pair.{specs.Inner.Searching.{IsForNext, AreSearched, AreThrough, IsInStep}, proofs.{NextLemmas.{one-awaited}, PairingLemmas.{AreNext-push}}}
use Rattle.nntp_pair.proofs.{PairingLemmas.{places_more, frame-more}, PairLemmas.{frame-within}}

pub is-empty : (octets : List ℕ) → (length octets == 0) ≡ true → octets ≡ []
is-empty [] e = refl
is-empty (b ∷ octets) e = absurd (let none : length (b ∷ octets) ≡ 0 = eqb-true (length (b ∷ octets)) 0 e in omega arith)

pub not-empty : (octets : List ℕ) → (length octets == 0) ≡ false → octets ≢ []
not-empty octets e none = eqb-false (length octets) 0 e (ap length none)

-- ---- the next place

-- with more octets the places are the same, and more
pub places-more : (is_greeted : Bool) (client : ClientStream) (more : List ℕ) → (later : List Place) × (places_from is_greeted (further client more) ≡ places_from is_greeted client ++ later)
places-more true client more = places_more client more
places-more false client more = ((places_more client more).0, ap (λ places. place_of client.overviews None ∷ places) (places_more client more).1)

awaits-more : (index : ℕ) (is_closed : Bool) (client : ClientStream) (server client_piece server_piece : List ℕ) (place : Place) → Awaits (left_from index is_closed client server) place
    → Awaits (left_from index is_closed (further client client_piece) (server ++ server_piece)) place
awaits-more index is_closed client server client_piece server_piece place awaits =
    let more = places-more (nat_lt 0 index) client client_piece in
    record { is_open = awaits.is_open; places = awaits.places ++ more.0; first = more.1 ∙ ap (λ places. places ++ more.0) awaits.first }

is_greeted : (index : ℕ) → 0 < index → nat_lt 0 index ≡ true
is_greeted index some = grind (arith)

-- behind the greeting the octets begin with the place of their first line
pub line-place : (index : ℕ) (client : ClientStream) (line rest : List ℕ) → 0 < index → HasNoCrlf line → client.octets ≡ (line ++ crlf) ++ rest
    → BeginsWithPlace (nat_lt 0 index) client (place_of client.overviews (Some line)) rest
line-place index client line rest some is_line whole = grind (arith, is_greeted, append_assoc, lines-first)

-- at no octets more
pub begins-here : (index : ℕ) (client : ClientStream) (place : Place) (rest : List ℕ)
    → BeginsWithPlace (nat_lt 0 index) client place rest → places_from (nat_lt 0 index) client ≡ place ∷ places_from true (taken client.overviews rest)
begins-here index client place rest begins =
    ap (λ t. places_from (nat_lt 0 index) (taken client.overviews t)) (sym (append-nil client.octets)) ∙ begins.places []
    ∙ ap (λ t. place ∷ places_from true (taken client.overviews t)) (append-nil rest)

-- so an open connection awaits it
pub begins-awaits : (index : ℕ) (is_closed : Bool) (client : ClientStream) (server : List ℕ) (place : Place) (rest : List ℕ) → is_closed ≡ false → BeginsWithPlace (nat_lt 0 index) client place rest
    → Awaits (left_from index is_closed client server) place
begins-awaits index is_closed client server place rest is_open begins = search (arith, begins-here)

-- ---- the searches

-- the search is for what is asked at the awaited place
pub for-next : (left : Unpaired) (search : FrameSearch) (place : Place) → IsForNext left search → Awaits left place → prompt_kind (asked_at place) ≡ search.kind
for-next left search place is awaits = ap (λ p. prompt_kind (asked_at p)) (one-awaited left place is.place awaits is.awaits) ∙ sym is.kind

frame-searched : (index : ℕ) (is_closed : Bool) (client : ClientStream) (server client_piece server_piece : List ℕ) (frame : Option FrameSearch)
    → MatchOption frame ⊤ (IsForNext (left_from index is_closed client server)) → MatchOption frame ⊤ (IsForNext (left_from index is_closed (further client client_piece) (server ++ server_piece)))
frame-searched index is_closed client server client_piece server_piece None is = tt
frame-searched index is_closed client server client_piece server_piece (Some search) is = record {
  place = is.place;
  awaits = awaits-more index is_closed client server client_piece server_piece is.place is.awaits;
  kind = is.kind;
  searched = frame_searched-more server server_piece search is.searched;
}

-- with more octets of both streams the searches have come as far
pub searched-more : (index : ℕ) (is_closed : Bool) (client : ClientStream) (server client_piece server_piece : List ℕ) (searches : Searches)
    → AreSearched (left_from index is_closed client server) client searches
    → AreSearched (left_from index is_closed (further client client_piece) (server ++ server_piece)) (further client client_piece) searches
searched-more index is_closed client server client_piece server_piece searches are = search (arith, line_searched-more, frame-searched)

-- where there is room for octets of a side, the server's stay few enough
pub counted-small : (side : Side) (counts : OctetCounts) (octets : List ℕ) → counts.server < 2 ^ 64
    → count_of side counts + length octets < 2 ^ 64 → counts.server + length (given Server side octets) < 2 ^ 64
counted-small side counts octets small room = grind arith

-- searches that have gone through the octets that are held
pub in-step : (index : ℕ) (is_closed : Bool) (client held_client : ClientStream) (server held_server : List ℕ) (count : ℕ) (searches : Searches) → client ≡ held_client → server ≡ held_server
    → 2 * index + length held_server ≤ count → count < 2 ^ 64
    → AreSearched (left_from index is_closed client server) client searches
    → AreThrough (left_from index is_closed client server) client searches
    → IsInStep index is_closed held_client held_server count searches
in-step index is_closed client held_client server held_server count searches same_client same_server counted small searched through = record {
  counted = counted;
  small = small;
  searched = grind arith;
  through = subst (λ t. AreThrough (left_from index is_closed held_client t) held_client searches) same_server
      (subst (λ t. AreThrough (left_from index is_closed t server) t searches) same_client through);
}

-- ---- what waits

-- where no response is whole, no exchange comes next, and no octets are bad for good
pub nothing : (left : Unpaired) → left.is_closed ≡ false → ((place : Place) → Awaits left place → IsCut (asked_at place) left.server)
    → (¬ (HasNext left)) × ((class : PairClass) → ¬ (EndsForGood class left))
nothing left is_open cut = (λ next. no_next next.0 next.1 next.2, for_good) where
  no_next : (pair : Paired) (behind : Unpaired) → IsNext left pair behind → ⊥
  no_next pair behind next =
      cut pair.place (record { is_open = next.is_open; places = behind.places; first = next.place }) pair.initial next.answered.block behind.server next.answered.frame

  for_good : (class : PairClass) → ¬ (EndsForGood class left)
  for_good Surplus (ends, closed) = false≢true (sym is_open ∙ closed)
  for_good class h = search arith

-- nor where the next place has not come
pub nothing-awaited : (left : Unpaired) → left.is_closed ≡ false → left.places ≡ [] → (¬ (HasNext left)) × ((class : PairClass) → ¬ (EndsForGood class left))
nothing-awaited left is_open none = nothing left is_open (λ place awaits. absurd (let some : place ∷ awaits.places ≡ [] = sym awaits.first ∙ none in cc))

-- a response to what is asked at the awaited place comes next
pub next-of : (left : Unpaired) (place : Place) (pair : Paired) (rest : List ℕ) → Awaits left place → pair.index ≡ left.index → pair.place ≡ place
    → IsAnswered place left.server pair.initial pair.response rest → (behind : Unpaired) × IsNext left pair behind
next-of left place pair rest awaits index line answered = (
  record { index = left.index + 1; places = awaits.places; server = rest; is_closed = closes (asked_at pair.place) pair.response },
  grind arith,
)

-- a frame takes two octets at least
pub frame-shorter : (place : Place) (server initial : List ℕ) (block : Option (List ℕ)) (rest : List ℕ)
    → HasFrame (asked_at place) server initial block rest → length rest + 2 ≤ length server
frame-shorter place server initial block rest has = grind (arith, length-append)

-- a frame that spells nothing is bad for good
pub malformed-for_good : (left : Unpaired) (place : Place) → Awaits left place → IsMalformed (asked_at place) left.server → EndsForGood Malformed left
malformed-for_good left place awaits why = grind arith

-- where an exchange comes next, its frame is searched
pub search-there : (left : Unpaired) (frame : Option FrameSearch) → frame ≡ None → MatchOption frame ((place : Place) → ¬ (Awaits left place)) (IsFrameThrough left.server) → HasNext left → ⊥
search-there left frame is through (pair, behind, next) =
    let none = subst (λ f. MatchOption f ((place : Place) → ¬ (Awaits left place)) (IsFrameThrough left.server)) is through in
    none pair.place (record { is_open = next.is_open; places = behind.places; first = next.place })

-- where neither an exchange comes next nor octets are bad for good, an awaited place has no whole frame
pub cut-left : (left : Unpaired) (place : Place) → Awaits left place → ¬ (HasNext left) → ((class : PairClass) → ¬ (EndsForGood class left)) → IsCut (asked_at place) left.server
cut-left left place awaits no_next no_good initial block rest has =
    no_good Malformed (malformed-for_good left place awaits (record {
      initial = initial;
      block = block;
      rest = rest;
      frame = has;
      nothing = λ response spells.
          let pair : Paired = record { index = left.index; place = place; initial = initial; response = response } in
          let next = next-of left place pair rest awaits refl refl (record { block = block; frame = has; spells = spells }) in
          no_next (pair, next.0, next.1);
    }))

-- where no place is awaited, octets are Surplus
pub surplus-left : (left : Unpaired) → ((place : Place) → ¬ (Awaits left place)) → IsBad Surplus left
surplus-left left none = at left.is_closed refl left.places refl where
  at : (is_closed : Bool) → left.is_closed ≡ is_closed → (places : List Place) → left.places ≡ places → IsBad Surplus left
  at true closed places first = inl closed
  at false is_open [] first = inr first
  at false is_open (place ∷ places) first = absurd (none place (record { is_open = is_open; places = places; first = first }))

-- ---- what came

-- more octets of both streams came
pub fed-more : (fed : Fed) (client_piece server_piece : List ℕ) (client : ClientStream) (server : List ℕ) (pairs : List Paired) → IsFed fed client server pairs
    → IsFed (with_octets client_piece server_piece fed) (further client client_piece) (server ++ server_piece) pairs
fed-more fed client_piece server_piece client server pairs is = grind (arith, append_assoc, length-append)

-- ---- behind an exchange

-- the octets behind the next place
pub behind-place : (is_greeted : Bool) (client : ClientStream) (slice : List ℕ) (place : Place) (rest : List ℕ) → slice ≡ client.octets
    → BeginsWithPlace is_greeted client place rest → drop (length slice - length rest) client.octets ≡ rest
behind-place is_greeted client slice place rest same begins = grind (arith, length-append, drop_at)

-- the frame that the search found is that of the response to the next place
pub next-frame : (index : ℕ) (is_closed : Bool) (client : ClientStream) (server slice rest behind : List ℕ) (place : Place) (search : FrameSearch) (initial : List ℕ) (block : Option (List ℕ))
    (len : ℕ)
    → is_closed ≡ false → BeginsWithPlace (nat_lt 0 index) client place rest → IsForNext (left_from index is_closed client server) search → slice ≡ server → behind ≡ drop len server
    → ((asked : Asked) → prompt_kind asked ≡ search.kind → HasFrame asked slice initial block (drop len slice))
    → (prompt_kind (asked_at place) ≡ search.kind) × HasFrame (asked_at place) server initial block behind
next-frame index is_closed client server slice rest behind place search initial block len is_open begins is same drops found =
    let kind = for-next (left_from index is_closed client server) search place is (begins-awaits index is_closed client server place rest is_open begins) in
    (kind, subst (HasFrame (asked_at place) server initial block) (sym drops) (subst (λ t. HasFrame (asked_at place) t initial block (drop len t)) same (found (asked_at place) kind)))

-- it is no longer than the octets that are held
pub frame-fits : (left : Unpaired) (search : FrameSearch) (slice server : List ℕ) (frame : FrameParts) (len : ℕ) → IsForNext left search → slice ≡ server
    → ((asked : Asked) → prompt_kind asked ≡ search.kind → HasFrame asked slice frame.initial frame.block (drop frame.len slice)) → len ≡ frame.len → IsFrame frame → len ≤ length server
frame-fits left search slice server frame len is same found value parts =
    subst (λ t. len ≤ length t) same (frame-within frame (found (asked_at is.place) (sym is.kind)) value parts)

-- the next pair, with more octets behind both streams
pub next-behind : (index : ℕ) (is_closed closes_behind : Bool) (client : ClientStream) (server rest behind_server initial : List ℕ)
    (block : Option (List ℕ)) (place : Place) (pair : Paired) (behind : Unpaired)
    → IsNext (left_from index is_closed client server) pair behind
    → BeginsWithPlace (nat_lt 0 index) client place rest
    → HasFrame (asked_at place) server initial block behind_server
    → ((response : Response) → Spells (asked_at place) response (frame_octets initial block) → closes_behind ≡ closes (asked_at place) response)
    → (client_more server_more : List ℕ)
    → IsNext (left_from index is_closed (further client client_more) (server ++ server_more)) pair
    (left_from (index + 1) closes_behind (taken client.overviews (rest ++ client_more)) (behind_server ++ server_more))
next-behind index is_closed closes_behind client server rest behind_server initial block place pair behind next begins has closing client_more server_more =
    let line : pair.place ≡ place = one-awaited (left_from index is_closed client server) pair.place place
    (record { is_open = next.is_open; places = behind.places; first = next.place }) (begins-awaits index is_closed client server place rest next.is_open begins) in
    let here : IsAnswered place server pair.initial pair.response behind.server = subst (λ p. IsAnswered p server pair.initial pair.response behind.server) line next.answered in
    let same = one-frame (asked_at place) server pair.initial initial here.block block behind.server behind_server here.frame has in
    let octets : frame_octets pair.initial here.block ≡ frame_octets initial block = ap (λ l. frame_octets l here.block) same.0 ∙ ap (frame_octets initial) same.1 in
    let greeted = is_greeted (index + 1) (omega arith) in
    record {
      index = next.index;
      is_open = next.is_open;
      place = grind arith;
      answered = grind (arith, frame-more);
      next_index = refl;
      closing = closing pair.response (subst (Spells (asked_at place) pair.response) octets here.spells) ∙ ap (λ p. closes (asked_at p) pair.response) (sym line);
    }

-- the same with none
pub next-here : (index : ℕ) (is_closed closes_behind : Bool) (client : ClientStream) (server rest behind_server : List ℕ) (pair : Paired)
    → ((client_more server_more : List ℕ) → IsNext
    (left_from index is_closed (further client client_more) (server ++ server_more)) pair
    (left_from (index + 1) closes_behind (taken client.overviews (rest ++ client_more)) (behind_server ++ server_more)))
    → IsNext (left_from index is_closed client server) pair (left_from (index + 1) closes_behind (taken client.overviews rest) behind_server)
next-here index is_closed closes_behind client server rest behind_server pair next =
    subst (λ (x : (List ℕ × List ℕ) × (List ℕ × List ℕ)). IsNext (left_from index is_closed (taken client.overviews x.0.0) x.0.1) pair
    (left_from (index + 1) closes_behind (taken client.overviews x.1.0) x.1.1))
    (λ i. ((append-nil client.octets i, append-nil server i), (append-nil rest i, append-nil behind_server i))) (next [] [])

-- one more pair came
pub fed-push : (fed after : Fed) (client : ClientStream) (server : List ℕ) (pairs : List Paired) (pair : Paired) → IsFed fed client server pairs
    → ((client_more server_more : List ℕ) → IsNext (left_of (with_octets client_more server_more fed)) pair (left_of (with_octets client_more server_more after)))
    → after.counts ≡ fed.counts → IsFed after client server (pairs ++ pair ∷ [])
fed-push fed after client server pairs pair is next counts = record {
  paired = λ client_more server_more.
      AreNext-push pairs (streams (further client client_more) (server ++ server_more)) (left_of (with_octets client_more server_more fed)) (left_of (with_octets client_more server_more after)) pair
      (is.paired client_more server_more) (next client_more server_more);
  client_came = ap (λ n. n.client) counts ∙ is.client_came;
  server_came = ap (λ n. n.server) counts ∙ is.server_came;
}
