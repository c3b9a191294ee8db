-- A stream as lines (RFC 3977, section 3.1).
use Rattle.std.specs.{Prelude.{ℕ, Bool, false, ◌&&◌, ◌==◌, if◌then◌else◌, List, [], ◌∷◌, ◌++◌, drop}, List.{flat_map}}
use Rattle.memchr.specs.Find.{OccursAt}
use Rattle.nntp_wire.specs.Octets.{line_feed, carriage_return, crlf}

-- these octets contain no CRLF
abbrev pub HasNoCrlf : List ℕ → Type 0
HasNoCrlf bytes = (k : ℕ) → ¬ (OccursAt bytes crlf k)

-- the octets of these lines, each followed by CRLF
abbrev pub ended : List (List ℕ) → List ℕ
ended lines = flat_map (λ line. line ++ crlf) lines

-- the part begins with LF
abbrev pub begins_with_line_feed : List ℕ → Bool
begins_with_line_feed [] = false
begins_with_line_feed (b ∷ bs) = b == line_feed

-- one more octet in front of the parts: CR in front of LF ends a part
abbrev pub with_octet : ℕ → List (List ℕ) → List (List ℕ)
with_octet b [] = (b ∷ []) ∷ []
with_octet b (part ∷ parts) =
    if b == carriage_return && begins_with_line_feed part then [] ∷ drop 1 part ∷ parts else (b ∷ part) ∷ parts

-- what stands between the CRLFs of a stream: its lines, and then the rest
abbrev pub parts_of : List ℕ → List (List ℕ)
parts_of [] = [] ∷ []
parts_of (b ∷ bs) = with_octet b (parts_of bs)

abbrev pub all_but_last : List (List ℕ) → List (List ℕ)
all_but_last [] = []
all_but_last (part ∷ []) = []
all_but_last (part ∷ next ∷ parts) = part ∷ all_but_last (next ∷ parts)

-- the lines of a stream, as `IsSplit` has them
abbrev pub lines_of_stream : List ℕ → List (List ℕ)
lines_of_stream stream = all_but_last (parts_of stream)
