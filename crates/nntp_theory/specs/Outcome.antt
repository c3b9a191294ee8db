-- What yes and no say of two streams.
use Rattle.std.specs.Prelude.{ℕ, List}
use Rattle.nntp_wire.specs.Session.{prompts_of, ClientStream}
use Rattle.nntp_article.specs.{declared.session.profile.Profile.{Profile}, Session.{Spool.{Spool}, Explains.{Explains, Bad}}}
use Rattle.nntp_theory.specs.{Given.{IsGiven, HasAtLeast, facts_of_session}, Classes.{HasClass}}
use Rattle.nntp_pair.specs.declared.class.Class.{Class}

-- yes with this spool and so many answers, or no at this answer, of this class
pub data Outcome : Type 0 where
  Yes : (spool : Spool) → (answers : ℕ) → Outcome
  No : (answer : ℕ) → (class : Class) → Outcome

-- the spool explains both streams with n answers; it is the one that is given for what these say; and no spool that explains the streams lacks what they show, or has fewer numbers in a group
pub record IsLeastExplanation (profile : Profile) (client : ClientStream) (server : List ℕ) (S : Spool) (n : ℕ) : Type 0 where
  pub explains : Explains profile S client server n
  pub given : IsGiven (facts_of_session profile.marks (prompts_of client) explains.answers) S
  pub least : (T : Spool) (m : ℕ) → Explains profile T client server m → HasAtLeast (facts_of_session profile.marks (prompts_of client) explains.answers) S T

-- what it says of both streams is so: on yes the spool is their least explanation; on no the answer is the bad one, of its class
abbrev pub IsOutcome : Profile → ClientStream → List ℕ → Outcome → Type 0
IsOutcome profile client server (Yes S n) = IsLeastExplanation profile client server S n
IsOutcome profile client server (No k class) = Bad profile client server k × HasClass profile client server k class
