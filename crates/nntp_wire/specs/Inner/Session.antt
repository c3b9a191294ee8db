-- What is said with the words of `Session.antt`, and needn't be believed.
use Rattle.std.specs.Prelude.{◌≡◌, ℕ, false, List, [], ◌∷◌, ◌++◌, ⊤}
use Rattle.nntp_wire.specs.{Answer.{Asked, Response}, Session.{closes, Spelled}}

-- the server's octets are a spelling of each answer, and then the rest
abbrev pub AreSpelled : List Asked → List Response → List ℕ → List ℕ → Type 0
AreSpelled prompts responses server rest = (octets : List ℕ) × Spelled prompts responses octets × (server ≡ octets ++ rest)

-- no answer but the last closes the connection
abbrev pub StaysOpen : List Asked → List Response → Type 0
StaysOpen prompts [] = ⊤
StaysOpen prompts (response ∷ []) = ⊤
StaysOpen [] (response ∷ next ∷ responses) = ⊤
StaysOpen (asked ∷ prompts) (response ∷ next ∷ responses) = (closes asked response ≡ false) × StaysOpen prompts (next ∷ responses)
