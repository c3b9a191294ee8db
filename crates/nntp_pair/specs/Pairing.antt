-- Which response answers what (RFC 3977, sections 3.1 and 3.5): the greeting nothing that was sent, and then each response the next line of the client.
use Rattle.std.specs.{Prelude.{◌≡◌, ◌≢◌, ◌⊎◌, ℕ, ◌+◌, Bool, true, false, List, [], ◌∷◌, Option, None, Some, is_some, map, count_by}, Option.{option_map_or}}
use Rattle.nntp_wire.specs.{Lines.{lines_of_stream}, Command.{request_as}, Answer.{Asked, greeting, to, Response, Spells}, Frame.{HasFrame, frame_octets}}
use Rattle.nntp_wire.specs.{Session.{ClientStream, closes}, declared.overviews.Overviews.{Overviews}}
use Rattle.nntp_pair.specs.declared.class.PairClass.{PairClass, TheVariants.{Surplus, Cut, Malformed}}

-- a place of a session: a line of the client, or none at the greeting's, and how overviews are taken there
pub record Place : Type 0 where
  pub line : Option (List ℕ)
  pub overviews : Overviews

-- the place of a line, if it has one, where they are taken so
abbrev pub place_of : Overviews → Option (List ℕ) → Place
place_of overviews line = record { line = line; overviews = overviews }

-- the places of a session: the greeting's, which has no line, and then one for each line of the client
abbrev pub places_of : ClientStream → List Place
places_of client = map (place_of client.overviews) (None ∷ map Some (lines_of_stream client.octets))

-- what is answered at a place
abbrev pub asked_at : Place → Asked
asked_at place = option_map_or (λ line. to (request_as place.overviews line)) place.line greeting

-- the server's octets begin with this response, under this initial line, to what is asked at the place, and go on with the rest
pub record IsAnswered (place : Place) (server initial : List ℕ) (response : Response) (rest : List ℕ) : Type 0 where
  pub block : Option (List ℕ)
  pub frame : HasFrame (asked_at place) server initial block rest
  pub spells : Spells (asked_at place) response (frame_octets initial block)

-- the server's octets begin with no whole frame of what is asked
abbrev pub IsCut : Asked → List ℕ → Type 0
IsCut asked server = (initial : List ℕ) (block : Option (List ℕ)) (rest : List ℕ) → ¬ (HasFrame asked server initial block rest)

-- they begin with a frame that spells nothing
pub record IsMalformed (asked : Asked) (server : List ℕ) : Type 0 where
  pub initial : List ℕ
  pub block : Option (List ℕ)
  pub rest : List ℕ
  pub frame : HasFrame asked server initial block rest
  pub nothing : (response : Response) → ¬ (Spells asked response (frame_octets initial block))

-- a response with its initial line, and the place that it answers, which is counted from 0
pub record Paired : Type 0 where
  pub index : ℕ
  pub place : Place
  pub initial : List ℕ
  pub response : Response

-- what is left to pair: the index of the next place, the places from there on, the server's octets, and whether the connection is closed
pub record Unpaired : Type 0 where
  pub index : ℕ
  pub places : List Place
  pub server : List ℕ
  pub is_closed : Bool

-- the pair comes next, and then this is left
pub record IsNext (before : Unpaired) (pair : Paired) (after : Unpaired) : Type 0 where
  pub index : pair.index ≡ before.index
  pub is_open : before.is_closed ≡ false
  pub place : before.places ≡ pair.place ∷ after.places
  pub answered : IsAnswered pair.place before.server pair.initial pair.response after.server
  pub next_index : after.index ≡ before.index + 1
  pub closing : after.is_closed ≡ closes (asked_at pair.place) pair.response

-- an exchange comes next
abbrev pub HasNext : Unpaired → Type 0
HasNext left = (pair : Paired) × (behind : Unpaired) × IsNext left pair behind

-- at the next place a frame of this initial line and this block spells nothing, and this is left behind it (RFC 3977, sections 3.1 and 3.2)
pub record IsPassedOver (before : Unpaired) (place : Place) (initial : List ℕ) (block : Option (List ℕ)) (after : Unpaired) : Type 0 where
  pub is_open : before.is_closed ≡ false
  pub comes : before.places ≡ place ∷ after.places
  pub frame : HasFrame (asked_at place) before.server initial block after.server
  pub nothing : (response : Response) → ¬ (Spells (asked_at place) response (frame_octets initial block))
  pub next_index : after.index ≡ before.index + 1
  pub stays_open : after.is_closed ≡ false

-- the pairs come next, one after the other, and then this is left
abbrev pub AreNext : Unpaired → List Paired → Unpaired → Type 0
AreNext before [] after = before ≡ after
AreNext before (pair ∷ pairs) after = (between : Unpaired) × IsNext before pair between × AreNext between pairs after

-- the connection is open, and this place is next
pub record Awaits (left : Unpaired) (place : Place) : Type 0 where
  pub is_open : left.is_closed ≡ false
  pub places : List Place
  pub first : left.places ≡ place ∷ places

-- the line of the first of these places, if it has one
abbrev pub line_ahead : List Place → Option (List ℕ)
line_ahead [] = None
line_ahead (place ∷ places) = place.line

-- why the octets that are left answer nothing
abbrev pub IsBad : PairClass → Unpaired → Type 0
IsBad Surplus left = (left.is_closed ≡ true) ⊎ (left.places ≡ [])
IsBad Cut left = (place : Place) × Awaits left place × IsCut (asked_at place) left.server
IsBad Malformed left = (place : Place) × Awaits left place × IsMalformed (asked_at place) left.server

-- a line of the client is there
abbrev pub has_line : Place → Bool
has_line place = is_some place.line

-- how a pairing ends: with no octet left, and so many lines unanswered, or at octets that answer nothing
pub data Ending : Type 0 where
  end : (unanswered : ℕ) → Ending
  bad : (class : PairClass) → Ending

-- the pairing ends here, in this way
abbrev pub Ends : Unpaired → Ending → Type 0
Ends left (end unanswered) = (left.server ≡ []) × (unanswered ≡ count_by has_line left.places)
Ends left (bad class) = (left.server ≢ []) × IsBad class left

-- before the first pair both streams are left
abbrev pub streams : ClientStream → List ℕ → Unpaired
streams client server = record { index = 0; places = places_of client; server = server; is_closed = false }

-- the pairing of both streams
pub record IsPairing (client : ClientStream) (server : List ℕ) (pairs : List Paired) (ending : Ending) : Type 0 where
  pub left : Unpaired
  pub paired : AreNext (streams client server) pairs left
  pub ends : Ends left ending

-- the responses of pairs
abbrev pub responses_of : List Paired → List Response
responses_of pairs = map (λ pair. pair.response) pairs

-- what these responses answer
abbrev pub asked_of : List Paired → List Asked
asked_of pairs = map (λ pair. asked_at pair.place) pairs
