-- What is said with the words of `Decided.antt`, and needn't be believed.
use Rattle.std.specs.{Prelude.{ℕ, Bool, true, ◌&&◌, List, Option}, Option.{option_map_or}}
use Rattle.nntp_wire.specs.Decided.{is_group_name, matches_name}

-- the octets are a group's name that LIST ACTIVE asks for: one that matches, or any without a wildmat (section 7.6.3)
abbrev pub is_asked : Option (List ℕ) → List ℕ → Bool
is_asked p name = is_group_name name && option_map_or (λ w. matches_name w name) p true
