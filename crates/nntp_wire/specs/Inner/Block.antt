-- What is said with the words of `Block.antt`, and needn't be believed.
use Rattle.std.specs.{Prelude.{ℕ, ◌≡◌, ◌≢◌, ◌==◌, ◌&&◌, ◌||◌, not, true, Bool, List, [], ◌∷◌, ◌++◌, map, IsTrue}, Bool.{beq}, List.{AllByRecursion}}
use Rattle.bstr.specs.Text.{lines_of, without_terminator}
use Rattle.nntp_wire.specs.{Octets.{dot, crlf, line_feed, carriage_return, is_clean}, Block.{stuffed, sent, dot_line, AreClean, unstuffed}}

-- the CRLF of the line before a dot line, and then that dot line
abbrev pub end_of_block : List ℕ
end_of_block = crlf ++ dot_line

-- no line is empty
abbrev pub HasNoEmptyLine : List (List ℕ) → Type 0
HasNoEmptyLine lines = AllByRecursion (λ line. line ≢ []) lines

-- the octets are these lines as they are sent
pub record Sends (bytes : List ℕ) (lines : List (List ℕ)) : Type 0 where
  pub clean : AreClean lines
  pub whole : bytes ≡ sent lines

-- the lines that were sent
abbrev pub received : List ℕ → List (List ℕ)
received bytes = map unstuffed (map without_terminator (lines_of bytes))

-- the octets send some lines
abbrev pub IsSent : List ℕ → Type 0
IsSent bytes = (lines : List (List ℕ)) × Sends bytes lines

-- the octets are some line as it is sent
abbrev pub IsSentLine : List ℕ → Type 0
IsSentLine bytes = (line : List ℕ) × IsTrue (is_clean line) × (bytes ≡ stuffed line)

-- an octet of sent lines before two others: it is no NUL, LF stands behind CR alone, and a dot behind LF before another
abbrev pub is_fit : ℕ → ℕ → ℕ → Bool
is_fit a b c = not (a == 0) && beq (a == carriage_return) (b == line_feed) && (not (a == line_feed) || not (b == dot) || c == dot)

-- each octet fits the two behind it
abbrev pub are_fit : List ℕ → Bool
are_fit (a ∷ b ∷ c ∷ bytes) = is_fit a b c && are_fit (b ∷ c ∷ bytes)
are_fit bytes = true
