-- Words as they stand in a line (RFC 3977, section 3.1).
use Rattle.std.specs.Prelude.{◌==◌, ◌&&◌, ◌||◌, if◌then◌else◌, not, false, ℕ, Bool, List, [], ◌∷◌}

-- the octets are words with one SP between them, and end in a word; behind a blank, they begin with one
abbrev pub are_joined : Bool → List ℕ → Bool
are_joined before [] = not before
are_joined before (c ∷ cs) = if c == 9 || c == 32 && before then false else are_joined (c == 32) cs
