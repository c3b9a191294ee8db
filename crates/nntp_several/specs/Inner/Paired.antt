-- Sessions whose exchanges are known.
use Rattle.std.specs.Prelude.{ℕ, List, [], ◌∷◌, ⊤}
use Rattle.nntp_pair.specs.Pairing.{Paired, end, IsPairing}
use Rattle.nntp_several.specs.Sessions.{Recorded}

-- the pairing of a session has these exchanges, and comes to the end of the server's octets
abbrev pub IsPairedWhole : Recorded → List Paired → Type 0
IsPairedWhole session pairs = (unanswered : ℕ) × IsPairing session.client session.server pairs (end unanswered)

-- so it is of each of the sessions
abbrev pub ArePaired : List Recorded → List (List Paired) → Type 0
ArePaired [] [] = ⊤
ArePaired (session ∷ more) (pairs ∷ others) = IsPairedWhole session pairs × ArePaired more others
ArePaired sessions others = ⊥
