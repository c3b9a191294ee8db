-- What is said with the words of `Frame.antt`, and needn't be believed.
use Rattle.std.specs.Prelude.{ℕ, ◌≡◌, List, Option, length}
use Rattle.nntp_wire.specs.{Lines.{HasNoCrlf}, Frame.{IsBeforeDotLine, frame_octets}}

-- what a frame shows: its initial line, its block and how many octets it takes
pub record FrameParts : Type 0 where
  pub initial : List ℕ
  pub block : Option (List ℕ)
  pub len : ℕ

-- the parts are those of a frame
pub record IsFrame (f : FrameParts) : Type 0 where
  pub is_line : HasNoCrlf f.initial
  pub before_dot_line : IsBeforeDotLine f.block
  pub len_is : f.len ≡ length (frame_octets f.initial f.block)
