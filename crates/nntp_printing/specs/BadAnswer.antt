-- What reports print of a bad answer.
use Rattle.std.specs.Prelude.{◌≡◌, ◌⊎◌, ℕ, List, ◌++◌, Option, None, Some, codes, decimal, take}
use Rattle.nntp_wire.specs.{Lines.{HasNoCrlf}, Octets.{crlf}}
use Rattle.nntp_pair.specs.declared.class.Class.{Class, TheVariants.{Surplus, Cut, Malformed, OutOfPlace, Contradiction}}
use Rattle.nntp_printing.specs.Printing.{escaped}

-- the word that is printed for a class
abbrev pub class_word : Class → List ℕ
class_word Surplus = codes "Surplus"
class_word Cut = codes "Cut"
class_word Malformed = codes "Malformed"
class_word OutOfPlace = codes "OutOfPlace"
class_word Contradiction = codes "Contradiction"

-- which answer is bad, and why
abbrev pub bad_line : ℕ → Class → List ℕ
bad_line answer class = codes "bad answer " ++ decimal answer ++ codes " " ++ class_word class ++ codes "\n"

-- the line of the command that a bad answer is for
abbrev pub command_line : Option (List ℕ) → List ℕ
command_line None = codes "no command\n"
command_line (Some line) = codes "command " ++ escaped line ++ codes "\n"

-- the lines of a bad answer: which it is, and why; the line that it answers; and its initial line
abbrev pub bad_lines : ℕ → Class → Option (List ℕ) → List ℕ → List ℕ
bad_lines answer class command reply = bad_line answer class ++ command_line command ++ codes "answer " ++ escaped reply ++ codes "\n"

-- the octets up to the first CRLF, or all of them where there is none
abbrev pub IsFirstLine : List ℕ → List ℕ → Type 0
IsFirstLine octets line = HasNoCrlf line × ((octets ≡ line) ⊎ ((rest : List ℕ) × (octets ≡ line ++ crlf ++ rest)))

-- as much of a line as a verdict shows
abbrev pub shown : List ℕ → List ℕ
shown line = take 512 line
