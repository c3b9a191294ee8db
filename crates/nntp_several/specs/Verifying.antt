-- What `verify_sessions` answers.
use Rattle.std.specs.Prelude.{ℕ, List, take, slice_get, MatchOption}
use Rattle.nntp_article.specs.{Session.{Spool.{Spool}, Explains.{Explains}}, declared.session.profile.Profile.{Profile}}
use Rattle.nntp_spool.specs.Sessions.{RefusesAt}
use Rattle.nntp_several.specs.Sessions.{Recorded, ExplainsEach, OfEach}

-- a spool permits so many answers of each session; or it refuses this answer of this session
pub data VerifiedOfAll : Type 0 where
  PermitsAll : (answers : List ℕ) → VerifiedOfAll
  RefusesOne : (session : ℕ) → (answer : ℕ) → VerifiedOfAll

-- the spool explains each session, with so many answers; or it explains those before this one, of which this answer is the first that it doesn't explain
abbrev pub IsVerifiedOfAll : Profile → Spool → List Recorded → VerifiedOfAll → Type 0
IsVerifiedOfAll profile S sessions (PermitsAll ns) = OfEach (λ s n. Explains profile S s.client s.server n) sessions ns
IsVerifiedOfAll profile S sessions (RefusesOne j k) =
    MatchOption (slice_get sessions j) ⊥ (λ s. ExplainsEach profile S (take j sessions) × RefusesAt profile S s.client s.server k)
