-- What yes and no say of several sessions.
use Rattle.std.specs.Prelude.{◌≡◌, ℕ, List, slice_get, MatchOption}
use Rattle.nntp_article.specs.{declared.session.profile.Profile.{Profile}, Session.Spool.{Spool}}
use Rattle.nntp_theory.specs.{Given.{IsGiven, HasAtLeast}, Classes.{HasClass}, Answered.{facts_of_all}}
use Rattle.nntp_pair.specs.declared.class.Class.{Class}
use Rattle.nntp_several.specs.Sessions.{Recorded, ExplainsAll, BadOfAll, answered_by, counts_of}

-- yes with this spool, and so many answers of each session; or no at this answer of this session, of this class
pub data OutcomeOfAll : Type 0 where
  YesOfAll : (spool : Spool) → (answers : List ℕ) → OutcomeOfAll
  NoOfAll : (session : ℕ) → (answer : ℕ) → (class : Class) → OutcomeOfAll

-- the spool explains all sessions, with so many answers of each; it is the one that is given for what all of them say; and no spool that explains them lacks what they show, or has fewer numbers in a
-- group
pub record IsLeastOfAll (profile : Profile) (sessions : List Recorded) (S : Spool) (answers : List ℕ) : Type 0 where
  pub explains : ExplainsAll profile S sessions
  pub count : answers ≡ counts_of (answered_by profile S sessions explains.1)
  pub given : IsGiven (facts_of_all profile.marks (answered_by profile S sessions explains.1)) S
  pub least : (T : Spool) → ExplainsAll profile T sessions → HasAtLeast (facts_of_all profile.marks (answered_by profile S sessions explains.1)) S T

-- answer k of session j has this class, which only its own session decides
abbrev pub HasClassThere : Profile → List Recorded → ℕ → ℕ → Class → Type 0
HasClassThere profile sessions j k class = MatchOption (slice_get sessions j) ⊥ (λ session. HasClass profile session.client session.server k class)

-- what it says of all sessions is so: on yes the spool is their least explanation; on no the answer is the bad one, of its class
abbrev pub IsOutcomeOfAll : Profile → List Recorded → OutcomeOfAll → Type 0
IsOutcomeOfAll profile sessions (YesOfAll S answers) = IsLeastOfAll profile sessions S answers
IsOutcomeOfAll profile sessions (NoOfAll j k class) = BadOfAll profile sessions j k × HasClassThere profile sessions j k class
