-- What is answered in a session, how the answers are spelled, and when the server closes the connection (RFC 3977, sections 3.2.1, 3.5, 5.1, 5.3 and 5.4).
use Rattle.std.specs.Prelude.{◌≡◌, ℕ, Bool, false, ◌||◌, ◌==◌, List, [], ◌∷◌, ◌++◌, map}
use Rattle.nntp_wire.specs.{Lines.{lines_of_stream}, Command.{request_as, mode_reader, quit}, Answer.{Asked, greeting, to, Response, plain, Spells}}
use Rattle.nntp_wire.specs.declared.overviews.Overviews.{Overviews}

-- what a client sends, and how overviews in it are taken
pub record ClientStream : Type 0 where
  pub octets : List ℕ
  pub overviews : Overviews

-- these octets, where they are taken so
abbrev pub taken : Overviews → List ℕ → ClientStream
taken overviews octets = record { octets = octets; overviews = overviews }

-- the same with these octets behind
abbrev pub further : ClientStream → List ℕ → ClientStream
further client more = taken client.overviews (client.octets ++ more)

-- what the server answers: first nothing that was asked, and then each line of the client in turn
abbrev pub prompts_of : ClientStream → List Asked
prompts_of client = greeting ∷ map (λ line. to (request_as client.overviews line)) (lines_of_stream client.octets)

-- the server closes the connection after this answer (sections 3.2.1, 5.1, 5.3 and 5.4)
abbrev pub closes : Asked → Response → Bool
closes greeting (plain code) = code == 400 || code == 502
closes (to mode_reader) (plain code) = code == 400 || code == 502
closes (to quit) (plain code) = code == 400 || code == 205
closes asked (plain code) = code == 400
closes asked response = false

-- the octets are one spelling of each answer, one after the other
abbrev pub Spelled : List Asked → List Response → List ℕ → Type 0
Spelled prompts [] octets = octets ≡ []
Spelled [] (response ∷ responses) octets = ⊥
Spelled (asked ∷ prompts) (response ∷ responses) octets =
    (front : List ℕ) × (behind : List ℕ) × Spells asked response front × Spelled prompts responses behind × (octets ≡ front ++ behind)
