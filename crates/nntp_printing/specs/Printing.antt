-- Octets as reports print them.
use Rattle.std.specs.{Prelude.{ℕ, ◌==◌, ◌/◌, ◌%◌, ◌+◌, nat_lt, if◌then◌else◌, List, [], ◌∷◌, ◌++◌, codes}, Int.{is_in_range}, List.{flat_map}}

-- the hexadecimal digit of a number below 16, in lower case
abbrev pub hexadecimal_digit : ℕ → ℕ
hexadecimal_digit n = if nat_lt n 10 then 48 + n else 87 + n

-- visible ASCII and SP stand for themselves, a backslash is doubled, and any other octet is a backslash, x and two digits
abbrev pub escaped_octet : ℕ → List ℕ
escaped_octet b =
    if b == 92 then codes "\\\\"
    else (if is_in_range 0x20 0x7E b then b ∷ []
    else codes "\\x" ++ hexadecimal_digit (b / 16) ∷ hexadecimal_digit (b % 16) ∷ [])

-- octets as they are printed
abbrev pub escaped : List ℕ → List ℕ
escaped octets = flat_map escaped_octet octets
