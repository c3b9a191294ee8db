-- What is said with the words of `Sessions.antt`, and needn't be believed.
use Rattle.std.specs.Prelude.{ℕ, ◌+◌, List, [], ◌∷◌, length}
use Rattle.nntp_several.specs.Sessions.{Recorded}

-- the octets of all servers
abbrev pub octets_of : List Recorded → ℕ
octets_of [] = 0
octets_of (session ∷ more) = length session.server + octets_of more
