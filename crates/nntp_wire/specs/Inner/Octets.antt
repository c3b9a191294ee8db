-- What is said with the words of `Octets.antt`, and needn't be believed.
use Rattle.std.specs.{Prelude.{ℕ, List, [], Bool, ◌==◌, nat_lt, Option, None, Some}, List.{list_all, slice_split}}

-- each of these numbers is below 256
abbrev pub are_octets : List ℕ → Bool
are_octets bytes = list_all (λ b. nat_lt b 256) bytes

-- the parts of what is left that stand between separators
abbrev pub parts_left : ℕ → Option (List ℕ) → List (List ℕ)
parts_left separator None = []
parts_left separator (Some bytes) = slice_split (λ b. b == separator) bytes
