-- What reports print before what they tell of one of several sessions.
use Rattle.std.specs.Prelude.{ℕ, List, [], ◌∷◌, ◌++◌, codes, decimal}
use Rattle.nntp_printing.specs.{BadAnswer.{shown}, Printing.{escaped}}

-- the title of a session: its number, and the first octets of its name, if it has one
abbrev pub title_line : ℕ → List ℕ → List ℕ
title_line number [] = codes "session " ++ decimal number ++ codes "\n"
title_line number (octet ∷ name) = codes "session " ++ decimal number ++ codes " " ++ escaped (shown (octet ∷ name)) ++ codes "\n"
