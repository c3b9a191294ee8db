-- What is said with the words of `Lines.antt`, and needn't be believed.
use Rattle.std.specs.{Prelude.{◌≡◌, ℕ, List, ◌++◌}, List.{AllByRecursion}}
use Rattle.nntp_wire.specs.Lines.{HasNoCrlf, ended}

-- the stream is these lines, each followed by CRLF, and then a rest without CRLF
pub record IsSplit (stream : List ℕ) (lines : List (List ℕ)) (rest : List ℕ) : Type 0 where
  pub whole : stream ≡ ended lines ++ rest
  pub each : AllByRecursion HasNoCrlf lines
  pub last : HasNoCrlf rest
