-- What is said with the words of `Capture.antt`, and needn't be believed.
use Rattle.std.specs.Prelude.{◌≡◌, false, []}
use Rattle.nntp_check.specs.Capture.{Captured}

-- without a piece of a session there is one session
abbrev pub IsAlone : Captured → Type 0
IsAlone c = c.is_several ≡ false → c.held.ended ≡ []
