-- What the exchanges of several sessions say, and that they are few.
use Rattle.std.specs.{Prelude.{◌<◌, ◌^◌, List, ◌++◌, length, map}, List.{AllByRecursion}}
use Rattle.nntp_wire.specs.declared.marks.Marks.{Marks}
use Rattle.nntp_pair.specs.{Pairing.{Paired, asked_of, responses_of}, Inner.Pairing.{lines_in}}
use Rattle.nntp_said.specs.Facts.{Fact}
use Rattle.nntp_theory.specs.{Given.{facts_of_session}, Answered.{facts_of_all}, Permitted.{exchanged}}

-- what the exchanges of a session say of the spool, where marks are read so
abbrev pub said_by : Marks → List Paired → List Fact
said_by how past = facts_of_session how (asked_of past) (responses_of past)

-- what they say behind those of earlier sessions
abbrev pub said_behind : Marks → List (List Paired) → List Paired → List Fact
said_behind how earlier past = facts_of_all how (map exchanged earlier) ++ said_by how past

-- there are fewer than 2^64 exchanges, each of fewer than 2^64 lines
pub record AreFew (pairs : List Paired) : Type 0 where
  pub lines : AllByRecursion (λ pair. lines_in pair.response < 2 ^ 64) pairs
  pub few : length pairs < 2 ^ 64
