-- How far the searches of a feed have come: for the end of the next line of the client, and for the frame of the next response.
use Rattle.std.specs.Prelude.{◌≡◌, ℕ, ◌+◌, ◌*◌, ◌^◌, ◌<◌, ◌≤◌, Bool, true, nat_lt, length, List, ◌∷◌, ◌++◌, MatchOption, ⊤}
use Rattle.nntp_wire.specs.{Inner.{Prompts.{prompt_kind}, Search.{IsLineSearched, IsLineThrough, IsFrameSearched, IsFrameThrough}}, Session.{ClientStream}}
use Rattle.nntp_wire.specs.{Session.{further, taken}, declared.framing.FrameSearch.{FrameSearch}}
use Rattle.nntp_pair.specs.{Pairing.{Place, Unpaired, Awaits, asked_at}, Inner.Pairing.{places_from}, declared.searches.Searches.{Searches}}

-- what is left to pair from the place of this index on
abbrev pub left_from : ℕ → Bool → ClientStream → List ℕ → Unpaired
left_from index is_closed client server = record { index = index; places = places_from (nat_lt 0 index) client; server = server; is_closed = is_closed }

-- the client's octets begin with this place, and go on with the rest, whatever follows them
pub record BeginsWithPlace (is_greeted : Bool) (client : ClientStream) (place : Place) (rest : List ℕ) : Type 0 where
  pub front : List ℕ
  pub whole : client.octets ≡ front ++ rest
  pub places : (more : List ℕ) → places_from is_greeted (further client more) ≡ place ∷ places_from true (taken client.overviews (rest ++ more))

-- the search is for the frame of the response to what is asked at the place that is awaited
pub record IsForNext (left : Unpaired) (search : FrameSearch) : Type 0 where
  pub place : Place
  pub awaits : Awaits left place
  pub kind : search.kind ≡ prompt_kind (asked_at place)
  pub searched : IsFrameSearched left.server search

-- the searches have come so far in these octets, or in fronts of them
pub record AreSearched (left : Unpaired) (client : ClientStream) (searches : Searches) : Type 0 where
  pub line : IsLineSearched client.octets searches.line
  pub frame : MatchOption searches.frame ⊤ (IsForNext left)

-- they have gone through all octets, and one is for a frame where a place is awaited
pub record AreThrough (left : Unpaired) (client : ClientStream) (searches : Searches) : Type 0 where
  pub line : IsLineThrough client.octets searches.line
  pub frame : MatchOption searches.frame ((place : Place) → ¬ (Awaits left place)) (IsFrameThrough left.server)

-- the searches have gone through all octets that are held, and each place behind took two octets of the server
pub record IsInStep (index : ℕ) (is_closed : Bool) (client : ClientStream) (server : List ℕ) (server_count : ℕ) (searches : Searches) : Type 0 where
  pub counted : 2 * index + length server ≤ server_count
  pub small : server_count < 2 ^ 64
  pub searched : AreSearched (left_from index is_closed client server) client searches
  pub through : AreThrough (left_from index is_closed client server) client searches
