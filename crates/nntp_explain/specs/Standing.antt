-- The accepted answers of sessions, each where it stands.
use Rattle.std.specs.Prelude.{ℕ, ◌+◌, List, [], ◌∷◌, ◌++◌, length}
use Rattle.nntp_pair.specs.Pairing.{Paired}
use Rattle.nntp_facts.specs.{declared.{standing.Standing.{Standing}, placed.Placed.{Placed as Cited}}, Standing.{nowhere, standing_after}}

-- an accepted answer as a reason cites it: its session, and where that stands before it
abbrev pub cited_at : ℕ → Standing → Paired → Cited
cited_at session s pair = record { session = session; standing = s; exchange = pair }

-- answers of a session from there on, one after the other
abbrev pub cited_from : ℕ → Standing → List Paired → List Cited
cited_from session s [] = []
cited_from session s (pair ∷ pairs) = cited_at session s pair ∷ cited_from session (standing_after s pair) pairs

-- the answers of a session
abbrev pub cited : ℕ → List Paired → List Cited
cited session pairs = cited_from session nowhere pairs

-- those of sessions, of which the first has this number
abbrev pub cited_each : ℕ → List (List Paired) → List Cited
cited_each session [] = []
cited_each session (pairs ∷ more) = cited session pairs ++ cited_each (session + 1) more

-- the number of a session, behind earlier ones
abbrev pub number_behind : List (List Paired) → ℕ
number_behind earlier = length earlier + 1

-- the answers of earlier sessions and of this one
abbrev pub cited_of_all : List (List Paired) → List Paired → List Cited
cited_of_all earlier pairs = cited_each 1 earlier ++ cited (number_behind earlier) pairs
