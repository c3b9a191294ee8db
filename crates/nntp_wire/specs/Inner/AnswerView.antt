-- What the values of src/answer.rt mean.
use Rattle.std.specs.Prelude.{ℕ, Bool, ◌≡◌, List, Option, None, Some, is_some, drop, ⊤}
use Rattle.nntp_wire.specs.{Inner.Block.{Sends}, Answer.{Asked, Response, group_is, numbers_are, sends, active_are, overviews_are, plain, Says, status_of}}
use Rattle.nntp_wire.specs.{Answer.{kind_of, is_block_due}, declared.answer.Answer.{Answer, TheVariants.{Group, Numbers, Sent, Active, Overviews, Plain}}}

-- the response, without where its parts lie in memory
abbrev pub response : Answer → Response
response (Group marks name) = group_is marks name
response (Numbers marks name lines) = numbers_are marks name lines
response (Sent code number id lines) = sends (record { code = code; number = number; id = id; block = lines })
response (Active lines) = active_are lines
response (Overviews lines) = overviews_are lines
response (Plain code) = plain code

-- the answer has the property, and if there is none no response has it
abbrev pub Answers : Option Answer → (Response → Type 0) → Type 0
Answers None P = (r : Response) → ¬ (P r)
Answers (Some answer) P = P (response answer)

-- the octets between the initial line and the dot line, if there are any, send these lines
abbrev pub SendsBlock : Option (List ℕ) → Option (List (List ℕ)) → Type 0
SendsBlock None None = ⊤
SendsBlock (Some bytes) (Some lines) = Sends bytes lines
SendsBlock bytes lines = ⊥

-- the octets send these lines, if there are any, and there are lines exactly if they are due
pub record IsBlock (sent : Option (List ℕ)) (is_due : Bool) (lines : Option (List (List ℕ))) : Type 0 where
  pub sends : SendsBlock sent lines
  pub due : is_some lines ≡ is_due

-- an initial line and the octets of a block say the response
pub record Reads (asked : Asked) (line : List ℕ) (sent : Option (List ℕ)) (response : Response) : Type 0 where
  pub code : ℕ
  pub block : Option (List (List ℕ))
  pub status : status_of asked line ≡ Some code
  pub is_block : IsBlock sent (is_block_due asked code) block
  pub says : Says (kind_of asked code) code (drop 3 line) block response
