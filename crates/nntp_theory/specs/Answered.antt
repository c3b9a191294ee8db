-- Several sessions as they are answered: what a spool permits, and what their answers say of it.
use Rattle.std.specs.{Prelude.{List}, List.{AllByRecursion, flat_map}}
use Rattle.nntp_wire.specs.{Answer.{Asked, Response}, declared.marks.Marks.{Marks}}
use Rattle.nntp_article.specs.{declared.session.profile.Profile.{Profile}, Session.{Machine.{Run, start}, Spool.{Spool, IsSpool}}}
use Rattle.nntp_said.specs.Facts.{Fact}
use Rattle.nntp_theory.specs.Given.{facts_of_session}

-- what is asked in a session, and the answers
pub record Answered : Type 0 where
  pub prompts : List Asked
  pub answers : List Response

-- the spool permits each of the sessions, each from its start on
abbrev pub PermitsEach : Profile → Spool → List Answered → Type 0
PermitsEach profile S sessions = AllByRecursion (λ s. Run profile S start s.prompts s.answers) sessions

-- some spool permits each of them
abbrev pub SomePermitsEach : Profile → List Answered → Type 0
SomePermitsEach profile sessions = (S : Spool) × IsSpool profile.limit S × PermitsEach profile S sessions

-- what a session says, where marks are read so
abbrev pub facts_in : Marks → Answered → List Fact
facts_in how s = facts_of_session how s.prompts s.answers

-- what all sessions say, one after the other
abbrev pub facts_of_all : Marks → List Answered → List Fact
facts_of_all how sessions = flat_map (facts_in how) sessions
