-- Both streams as they come, in pieces.
use Rattle.std.specs.Prelude.{◌≡◌, ℕ, ◌+◌, ◌^◌, ◌<◌, ◌≤◌, Bool, true, false, nat_lt, List, [], ◌++◌, length}
use Rattle.nntp_pair.specs.{Pairing.{Paired, Unpaired, IsNext, AreNext, Ends, end, bad, streams, HasNext}, Inner.Pairing.{IsLasting, places_from}}
use Rattle.nntp_pair.specs.{Inner.Sides.{given, count_of, counted}, declared.side.Side.{Side, TheVariants.{Client, Server}}}
use Rattle.nntp_pair.specs.declared.{octet_counts.OctetCounts.{OctetCounts}, pair_error.PairError.{PairError, TheVariants.{Memory, Failed, TooLong}}}
use Rattle.nntp_pair.specs.declared.{class.PairClass.{PairClass}, peek.Peek.{Peek}, ending.Ending.{Ending}}
use Rattle.nntp_wire.specs.{Session.{ClientStream, further}, declared.overviews.Overviews.{Overviews}}
use Rattle.nntp_pair.specs.declared.peek.Peek.TheVariants as peek
use Rattle.nntp_pair.specs.declared.ending.Ending.TheVariants as ending

-- what a feed holds: the index of the next place, the octets of both streams that came and that no exchange has passed,
-- whether the connection is closed, how many octets came of each stream, and whether memory was refused
pub record Fed : Type 0 where
  pub index : ℕ
  pub client : ClientStream
  pub server : List ℕ
  pub is_closed : Bool
  pub counts : OctetCounts
  pub has_failed : Bool

-- nothing has come yet, and overviews are taken so
abbrev pub unfed : Overviews → Fed
unfed overviews = record { index = 0; client = record { octets = []; overviews = overviews }; server = []; is_closed = false; counts = record { client = 0; server = 0 }; has_failed = false }

-- with more octets of the client and of the server
abbrev pub with_octets : List ℕ → List ℕ → Fed → Fed
with_octets client server fed = record fed { client = further fed.client client; server = fed.server ++ server; counts = counted client server fed.counts }

-- memory was refused: no octet is held any more
abbrev pub refused : Fed → Fed
refused fed = record fed { client = record fed.client { octets = [] }; server = []; has_failed = true }

-- what is left to pair of the octets that came
abbrev pub left_of : Fed → Unpaired
left_of fed = record { index = fed.index; places = places_from (nat_lt 0 fed.index) fed.client; server = fed.server; is_closed = fed.is_closed }

-- these octets of both streams came: whatever follows them, these pairs come first, and then what the feed holds
pub record IsFed (fed : Fed) (client : ClientStream) (server : List ℕ) (pairs : List Paired) : Type 0 where
  pub paired : (client_more server_more : List ℕ)
      → AreNext (streams (further client client_more) (server ++ server_more)) pairs (left_of (with_octets client_more server_more fed))
  pub client_came : fed.counts.client ≡ length client.octets
  pub server_came : fed.counts.server ≡ length server

-- octets of this side were taken: they came behind those that came before, and the same pairs have passed
pub record IsTaken (side : Side) (octets : List ℕ) (before after : Fed) : Type 0 where
  pub worked : before.has_failed ≡ false
  pub room : count_of side before.counts + length octets < 2 ^ 64
  pub value : after ≡ with_octets (given Client side octets) (given Server side octets) before
  pub fed : (client : ClientStream) (server : List ℕ) (pairs : List Paired) → IsFed before client server pairs
      → IsFed after (further client (given Client side octets)) (server ++ given Server side octets) pairs

-- no octets of this side were taken, for this reason, and this is left
abbrev pub IsUntaken : PairError → Side → List ℕ → Fed → Fed → Type 0
IsUntaken Failed side octets before after = (before.has_failed ≡ true) × (after ≡ before)
IsUntaken TooLong side octets before after = (before.has_failed ≡ false) × (2 ^ 64 ≤ count_of side before.counts + length octets) × (after ≡ before)
IsUntaken Memory side octets before after = (before.has_failed ≡ false) × (count_of side before.counts + length octets < 2 ^ 64) × (after ≡ refused before)

-- the pairing ends here at octets that answer nothing, whatever follows
abbrev pub EndsForGood : PairClass → Unpaired → Type 0
EndsForGood class left = Ends left (bad class) × IsLasting class left

-- what is told of the octets that came
abbrev pub IsPeek : Fed → Peek → Type 0
IsPeek fed (peek.Whole pair) = (fed.has_failed ≡ false) × (behind : Unpaired) × IsNext (left_of fed) pair behind
IsPeek fed peek.Nothing = (fed.has_failed ≡ false) × (¬ (HasNext (left_of fed))) × ((class : PairClass) → ¬ (EndsForGood class (left_of fed)))
IsPeek fed (peek.Bad index class) = (fed.has_failed ≡ false) × (index ≡ fed.index) × EndsForGood class (left_of fed)
IsPeek fed peek.Failed = fed.has_failed ≡ true

-- how the pairing ends, if no more octets come
abbrev pub IsEnding : Fed → Ending → Type 0
IsEnding fed ending.More = (fed.has_failed ≡ false) × HasNext (left_of fed)
IsEnding fed (ending.End unanswered) = (fed.has_failed ≡ false) × Ends (left_of fed) (end unanswered)
IsEnding fed (ending.Bad index class) = (fed.has_failed ≡ false) × (index ≡ fed.index) × Ends (left_of fed) (bad class)
IsEnding fed ending.Failed = fed.has_failed ≡ true
