-- A spool explains what clients and servers sent in several sessions (RFC 3977, sections 3.1 and 3.5).
use Rattle.std.specs.{Prelude.{ℕ, List, [], ◌∷◌, length, map, take, slice_get, MatchOption, ⊤}, List.{AllByRecursion}}
use Rattle.nntp_wire.specs.Session.{prompts_of, ClientStream}
use Rattle.nntp_article.specs.{Session.{Spool.{Spool, IsSpool}, Explains.{Explains, BadAmong}}, declared.session.profile.Profile.{Profile}}
use Rattle.nntp_theory.specs.Answered.{Answered}

-- what client and server sent in a session
pub record Recorded : Type 0 where
  pub client : ClientStream
  pub server : List ℕ

-- a session, and what it is called
pub record Named : Type 0 where
  pub name : List ℕ
  pub session : Recorded

-- sessions without their names
abbrev pub unnamed : List Named → List Recorded
unnamed sessions = map (λ (s : Named). s.session) sessions

-- the spool explains a session, with some number of answers
abbrev pub ExplainsIt : Profile → Spool → Recorded → Type 0
ExplainsIt profile S session = (n : ℕ) × Explains profile S session.client session.server n

-- it explains each of the sessions
abbrev pub ExplainsEach : Profile → Spool → List Recorded → Type 0
ExplainsEach profile S sessions = AllByRecursion (ExplainsIt profile S) sessions

-- it is a spool, and explains each of them
abbrev pub ExplainsAll : Profile → Spool → List Recorded → Type 0
ExplainsAll profile S sessions = IsSpool profile.limit S × ExplainsEach profile S sessions

-- answer k of a session is bad behind the sessions before: of the spools that explain those
abbrev pub BadBehind : Profile → List Recorded → Recorded → ℕ → Type 0
BadBehind profile before session k = BadAmong (λ S. ExplainsEach profile S before) profile session.client session.server k

-- answer k of session j is bad behind the sessions before j
abbrev pub BadOfAll : Profile → List Recorded → ℕ → ℕ → Type 0
BadOfAll profile sessions j k = MatchOption (slice_get sessions j) ⊥ (λ session. BadBehind profile (take j sessions) session k)

-- of each session and its number of answers
abbrev pub OfEach : (Recorded → ℕ → Type 0) → List Recorded → List ℕ → Type 0
OfEach P [] [] = ⊤
OfEach P (s ∷ more) (n ∷ ns) = P s n × OfEach P more ns
OfEach P sessions ns = ⊥

-- the answers of explained sessions, with what they answer
abbrev pub answered_by : (profile : Profile) (S : Spool) (sessions : List Recorded) → ExplainsEach profile S sessions → List Answered
answered_by profile S [] explained = []
answered_by profile S (session ∷ more) explained =
    record { prompts = prompts_of session.client; answers = explained.0.1.answers } ∷ answered_by profile S more explained.1

-- how many these are, of each session
abbrev pub counts_of : List Answered → List ℕ
counts_of sessions = map (λ session. length session.answers) sessions
