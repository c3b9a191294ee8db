-- How far a capture has been read.
use Rattle.std.specs.{Prelude.{◌≡◌, ◌≢◌, ℕ, ◌+◌, ◌<◌, ◌≤◌, ◌^◌, true, List, [], ◌∷◌, ◌++◌, length, Some, flat_map, ⊤}, List.{AllByRecursion, list_all}}
use Rattle.std.specs.Char.{is_ascii_digit}
use Rattle.nntp_wire.specs.Number.{number_value}
use Rattle.nntp_check.specs.Capture.{Part, word_of, spelled, IsPiece, count_of, BeginsNoPiece, IsBadPieceForGood, Held, Captured, with_octets, with_another}
use Rattle.nntp_check.specs.{Capture.{has_session, at_piece, captured_by}, declared.{source.Source.{Source}, capture_reader.{Place.{Place}, Passage.{Passage}}}}
use Rattle.nntp_check.specs.declared.capture_reader.{Passage.TheVariants.{FirstLine, NextSession, From}, CaptureReader.{CaptureReader}}
use Rattle.nntp_check.specs.declared.capture_reader.Place.TheVariants as places

-- only one word begins with these letters
abbrev pub NamesOne : List ℕ → Source → Type 0
NamesOne letters source = (other : Source) (rest more : List ℕ) → letters ++ rest ≡ word_of other ++ more → other ≡ source

-- the letters are the front of a source's word, and this rest of it is still to come
pub record IsInWord (letters rest : List ℕ) (source : Source) : Type 0 where
  pub word : letters ++ rest ≡ word_of source
  pub one : NamesOne letters source
  pub some : rest ≢ []

-- a word and at most 10 digits, so many and of this value
pub record IsInDigits (line : List ℕ) (source : Source) (many value : ℕ) : Type 0 where
  pub digits : List ℕ
  pub whole : line ≡ word_of source ++ digits
  pub each : list_all is_ascii_digit digits ≡ true
  pub many_is : many ≡ length digits
  pub few : many ≤ 10
  pub value_is : value ≡ number_value digits
  pub small : value < 10 ^ many

-- a piece of which so many octets are still to come
pub record IsInOctets (octets : List ℕ) (begun : List Part) (source : Source) (left : ℕ) : Type 0 where
  pub piece : Part
  pub begun_is : begun ≡ piece ∷ []
  pub source_is : piece.source ≡ source
  pub whole : octets ≡ spelled piece
  pub count : count_of piece.digits ≡ Some (length piece.octets + left)

-- behind the whole pieces these octets came, and lead to this place: once their first line is whole, they are of a piece that has begun
abbrev pub IsAt : Place → List ℕ → List Part → Type 0
IsAt places.Start octets begun = (octets ≡ []) × (begun ≡ [])
IsAt places.LetterS octets begun = (octets ≡ 115 ∷ []) × (begun ≡ [])
IsAt places.LettersSe octets begun = (octets ≡ 115 ∷ 101 ∷ []) × (begun ≡ [])
IsAt (places.Word source rest) octets begun = IsInWord octets rest.now source × (begun ≡ [])
IsAt (places.Digits source many value) octets begun = IsInDigits octets source many value × (begun ≡ [])
IsAt (places.Octets source left) octets begun = IsInOctets octets begun source left

-- these octets came: whole pieces, the next of which has this number, and then what leads to this place; and this is what they are of a capture
pub record HasCome (number : ℕ) (place : Place) (came : List ℕ) (captured : Captured) : Type 0 where
  pub parts : List Part
  pub each : AllByRecursion IsPiece parts
  pub number_is : number ≡ length parts + 1
  pub octets : List ℕ
  pub begun : List Part
  pub at : IsAt place octets begun
  pub whole : came ≡ flat_map spelled parts ++ octets
  pub captured_is : captured ≡ captured_by (parts ++ begun)

-- a piece that has begun isn't whole
abbrev pub IsOpen : Place → Type 0
IsOpen (places.Octets source left) = 0 < left
IsOpen place = ⊤

-- the place is within a first line
abbrev pub IsInLine : Place → Type 0
IsInLine (places.Octets source left) = ⊥
IsInLine place = ⊤

-- what a reader has read, where this is what pieces hold
abbrev pub captured : CaptureReader → Held → Captured
captured reader held = record { held = held; is_several = reader.is_several }

-- these octets came to a reader, and this is what they hold
pub record HasRead (reader : CaptureReader) (came : List ℕ) (held : Held) : Type 0 where
  pub come : HasCome reader.piece reader.place came (captured reader held)
  pub is_open : IsOpen reader.place
  pub session : reader.has_session ≡ has_session (captured reader held)

-- ---- the next octets

-- some octets lead to this place, with these fewer than 2^64
abbrev pub HasRoomAt : ℕ → Place → List ℕ → Type 0
HasRoomAt number place octets = (came : List ℕ) × (captured : Captured) × HasCome number place came captured × (length came + length octets < 2 ^ 64)

-- the same of what came to a reader
abbrev pub HasRoomFor : CaptureReader → List ℕ → Type 0
HasRoomFor reader octets = (came : List ℕ) × (held : Held) × HasRead reader came held × (length came + length octets < 2 ^ 64)

-- with the next octet of a first line no piece is there, whatever follows
abbrev pub CantGoOn : Place → ℕ → Type 0
CantGoOn place octet = (line : List ℕ) → IsAt place line [] → (more : List ℕ) → BeginsNoPiece (line ++ octet ∷ more)

-- with the next octet of a first line this is the place; it is none of a source's octets
abbrev pub GoesOn : Place → ℕ → Place → Type 0
GoesOn place octet next = (line : List ℕ) → IsAt place line [] → (begun : List Part) × IsAt next (line ++ octet ∷ []) begun × (flat_map (λ p. p.octets) begun ≡ [])

-- what octets of a capture are at a place to which an octet of a first line leads
abbrev pub reached : Place → Captured → Captured
reached (places.Octets source left) c = at_piece source c
reached place c = c

-- what pieces hold with octets that are passed on
abbrev pub passed : Passage → List ℕ → Held → Held
passed FirstLine octets held = held
passed NextSession octets held = with_another held
passed (From source) octets held = with_octets source octets held

-- a reader took these octets, which are of this kind
abbrev pub Reads : CaptureReader → CaptureReader → Passage → List ℕ → Type 0
Reads before after passage front = (came : List ℕ) (held : Held) → HasRead before came held → HasRead after (came ++ front) (passed passage front held)

-- a front of the octets makes this piece bad, whatever follows, behind those that came
pub record HasBadFront (came octets : List ℕ) (number : ℕ) : Type 0 where
  pub front : List ℕ
  pub rest : List ℕ
  pub cut : octets ≡ front ++ rest
  pub bad : IsBadPieceForGood (came ++ front) number

-- the same behind all that a reader took
abbrev pub IsBadBehind : CaptureReader → List ℕ → ℕ → Type 0
IsBadBehind reader octets number = (came : List ℕ) (held : Held) → HasRead reader came held → HasBadFront came octets number
