-- A spool explains what client and server sent (RFC 3977, sections 3.1 and 3.5).
use Rattle.std.specs.Prelude.{◌≡◌, ◌≢◌, ℕ, ◌+◌, List, [], ◌++◌, length, ⊤}
use Rattle.nntp_wire.specs.{Answer.{Response}, Session.{prompts_of, Spelled, ClientStream}}
use Rattle.nntp_article.specs.{Session.{Spool.{Spool, IsSpool}, Machine.{Run, start}}, declared.session.profile.Profile.{Profile}}

-- the spool permits the first n answers, and the server's octets go on with the rest
pub record ExplainsUpTo (profile : Profile) (S : Spool) (client : ClientStream) (server : List ℕ) (n : ℕ) (rest : List ℕ) : Type 0 where
  pub is_spool : IsSpool profile.limit S
  pub answers : List Response
  pub octets : List ℕ
  pub count : length answers ≡ n
  pub run : Run profile S start (prompts_of client) answers
  pub spelled : Spelled (prompts_of client) answers octets
  pub whole : server ≡ octets ++ rest

-- the spool explains both streams, with n answers
abbrev pub Explains : Profile → Spool → ClientStream → List ℕ → ℕ → Type 0
Explains profile S client server n = ExplainsUpTo profile S client server n []

-- the spool explains the answers 0 to k
abbrev pub ExplainsFirst : Profile → Spool → ClientStream → List ℕ → ℕ → Type 0
ExplainsFirst profile S client server k = (rest : List ℕ) × ExplainsUpTo profile S client server (k + 1) rest

-- of the spools with P some explains the answers before k, octets are left, and none explains the answers 0 to k
abbrev pub BadAmong : (Spool → Type 0) → Profile → ClientStream → List ℕ → ℕ → Type 0
BadAmong P profile client server k =
    ((S : Spool) × (rest : List ℕ) × P S × ExplainsUpTo profile S client server k rest × (rest ≢ []))
    × ((S : Spool) → P S → ExplainsFirst profile S client server k → ⊥)

-- of all spools: some explains the answers before k, octets are left, and none explains the answers 0 to k
abbrev pub Bad : Profile → ClientStream → List ℕ → ℕ → Type 0
Bad profile client server k = BadAmong (λ S. ⊤) profile client server k
