-- The two sides of a session, and the octets that come of each.
use Rattle.std.specs.Prelude.{ℕ, ◌+◌, List, [], length}
use Rattle.nntp_pair.specs.declared.{side.Side.{Side, TheVariants.{Client, Server}}, octet_counts.OctetCounts.{OctetCounts}}

-- octets of the second side, if that is the first
abbrev pub given : Side → Side → List ℕ → List ℕ
given Client Client octets = octets
given Client Server octets = []
given Server Client octets = []
given Server Server octets = octets

-- how many octets came of the side
abbrev pub count_of : Side → OctetCounts → ℕ
count_of Client counts = counts.client
count_of Server counts = counts.server

-- the counts with more octets of the client and of the server
abbrev pub counted : List ℕ → List ℕ → OctetCounts → OctetCounts
counted client server counts = record { client = counts.client + length client; server = counts.server + length server }
