-- What is said with the words of `Answered.antt`, and needn't be believed.
use Rattle.std.specs.{Prelude.{List}, List.{AllByRecursion}}
use Rattle.nntp_article.specs.{declared.session.profile.Profile.{Profile}, Session.Machine.{start}}
use Rattle.nntp_said.specs.Inner.Facts.{FitsAll}
use Rattle.nntp_theory.specs.Answered.{Answered}

-- each answer of each session fits the visible state that its own session leaves
abbrev pub FitEach : Profile → List Answered → Type 0
FitEach profile sessions = AllByRecursion (λ s. FitsAll profile start.visible s.prompts s.answers) sessions
