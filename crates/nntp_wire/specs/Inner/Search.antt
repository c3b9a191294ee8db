-- How far the search for a line's end, or for a frame's, has come in a stream that grows.
use Rattle.std.specs.Prelude.{◌≡◌, ℕ, ◌<◌, ◌≤◌, true, List, ◌++◌, length, ⊤}
use Rattle.memchr.specs.Find.{OccursAt}
use Rattle.nntp_wire.specs.{Octets.{crlf}, Lines.{HasNoCrlf}, Inner.{Block.{end_of_block}, Prompts.{prompt_kind}}, Answer.{Asked, code_of}, Frame.{is_due_by}}
use Rattle.nntp_wire.specs.declared.{search.Search.{Search, TheVariants.{Passed, Found}}, stream.LineSearch.{LineSearch}, framing.FrameSearch.{FrameSearch}}

-- the needle begins at none of the first n octets, whatever follows the stream
pub record IsPassed (needle stream : List ℕ) (n : ℕ) : Type 0 where
  pub within : n ≤ length stream
  pub nowhere : (more : List ℕ) (k : ℕ) → k < n → ¬ (OccursAt (stream ++ more) needle k)

-- the search for the needle has come so far in this stream, or in a front of it
abbrev pub IsSearched : List ℕ → List ℕ → Search → Type 0
IsSearched needle stream (Passed n) = IsPassed needle stream n
IsSearched needle stream (Found n) = IsPassed needle stream n × OccursAt stream needle n

-- the search for the needle has gone through the whole stream
abbrev pub IsThrough : List ℕ → List ℕ → Search → Type 0
IsThrough needle stream (Passed n) = (k : ℕ) → ¬ (OccursAt stream needle k)
IsThrough needle stream (Found n) = ⊤

-- the search for the first line's end has come so far in this stream, or in a front of it
abbrev pub IsLineSearched : List ℕ → LineSearch → Type 0
IsLineSearched stream search = IsSearched crlf stream search.end

-- the search for the first line's end has gone through the whole stream
abbrev pub IsLineThrough : List ℕ → LineSearch → Type 0
IsLineThrough stream search = IsThrough crlf stream search.end

-- the searches for the ends of the initial line and of the block have come so far in this stream, or in a front of it
pub record IsFrameSearched (stream : List ℕ) (search : FrameSearch) : Type 0 where
  pub line : IsLineSearched stream search.line
  pub block : IsSearched end_of_block stream search.block_end

-- both searches have gone through the whole stream, the one for the block's end where a block is due, and the code of the initial line is read
pub record IsFrameThrough (stream : List ℕ) (search : FrameSearch) : Type 0 where
  pub line : IsLineThrough stream search.line
  pub code : (line rest : List ℕ) → HasNoCrlf line → stream ≡ (line ++ crlf) ++ rest → search.code ≡ code_of line
  pub block : (asked : Asked) (line rest : List ℕ) → prompt_kind asked ≡ search.kind → HasNoCrlf line → stream ≡ (line ++ crlf) ++ rest
      → is_due_by asked (code_of line) ≡ true → IsThrough end_of_block stream search.block_end
