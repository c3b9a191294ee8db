-- The answer of a session that a spool refuses (RFC 3977, section 3.5).
use Rattle.std.specs.Prelude.{◌≢◌, ℕ, List, []}
use Rattle.nntp_article.specs.{Session.{Spool.{Spool}, Explains.{ExplainsUpTo, ExplainsFirst}}, declared.session.profile.Profile.{Profile}}
use Rattle.nntp_wire.specs.Session.{ClientStream}

-- the spool explains the answers before k, octets are left behind them, and it doesn't explain the answers 0 to k
abbrev pub RefusesAt : Profile → Spool → ClientStream → List ℕ → ℕ → Type 0
RefusesAt profile S client server k =
    ((rest : List ℕ) × ExplainsUpTo profile S client server k rest × (rest ≢ [])) × (ExplainsFirst profile S client server k → ⊥)
