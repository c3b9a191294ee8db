-- With which answers of several sessions a bad one conflicts.
use Rattle.std.specs.{Prelude.{List, ◌++◌}, List.{flat_map}}
use Rattle.nntp_pair.specs.Pairing.{Paired}
use Rattle.nntp_theory.specs.Conflict.{Placed, placed_of}

-- the exchanges of earlier sessions and of this one, each where it stands in its own session
abbrev pub placed_of_all : List (List Paired) → List Paired → List Placed
placed_of_all earlier past = flat_map placed_of earlier ++ placed_of past
