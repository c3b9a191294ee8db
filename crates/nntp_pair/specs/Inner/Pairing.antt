-- What is said with the words of `Pairing.antt`, and needn't be believed.
use Rattle.std.specs.Prelude.{◌≡◌, ℕ, Bool, true, false, List, ◌++◌, Option, Some, map, length, IsTrue, ⊤}
use Rattle.nntp_wire.specs.{Inner.Octets.{are_octets}, Lines.{lines_of_stream}, Answer.{Response, numbers_are, active_are, overviews_are, Spells}}
use Rattle.nntp_wire.specs.{Frame.{frame_octets}, Session.{ClientStream}}
use Rattle.nntp_pair.specs.{declared.class.PairClass.{PairClass, TheVariants.{Surplus, Cut, Malformed}}, Pairing.{Place, place_of, places_of, asked_at, Paired}}
use Rattle.nntp_pair.specs.Pairing.{Unpaired, AreNext, responses_of}

-- the same once the greeting's place is behind
abbrev pub places_from : Bool → ClientStream → List Place
places_from false client = places_of client
places_from true client = map (place_of client.overviews) (map Some (lines_of_stream client.octets))

-- with some block the initial line spells the response to what is asked at the place, in octets
pub record IsSpelled (place : Place) (initial : List ℕ) (response : Response) : Type 0 where
  pub block : Option (List ℕ)
  pub spells : Spells (asked_at place) response (frame_octets initial block)
  pub octets : IsTrue (are_octets (frame_octets initial block))

-- how many lines with a name or a number a response has
abbrev pub lines_in : Response → ℕ
lines_in (numbers_are m name lines) = length lines
lines_in (active_are lines) = length lines
lines_in (overviews_are lines) = length lines
lines_in response = 0

-- and no octets that follow can change that
abbrev pub IsLasting : PairClass → Unpaired → Type 0
IsLasting Surplus left = left.is_closed ≡ true
IsLasting Cut left = ⊥
IsLasting Malformed left = ⊤

-- pairs with these responses come next, and then the rest of the server's octets
abbrev pub HasPairs : Unpaired → List Response → List ℕ → Type 0
HasPairs before responses rest = (pairs : List Paired) × (left : Unpaired) × AreNext before pairs left × (responses_of pairs ≡ responses) × (left.server ≡ rest)

-- what is left, with more places and more octets behind
abbrev pub with_more : List Place → List ℕ → Unpaired → Unpaired
with_more places octets left = record { index = left.index; places = left.places ++ places; server = left.server ++ octets; is_closed = left.is_closed }
