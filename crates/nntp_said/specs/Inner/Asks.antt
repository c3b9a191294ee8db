-- What is said with the words of `Asks.antt`, and needn't be believed.
use Rattle.std.specs.Prelude.{List, [], ◌∷◌, ⊤}
use Rattle.nntp_article.specs.Session.{Spool.{Spool}, Machine.{Visible, State, MayAnswer, visible_after, selected_numbers}}
use Rattle.nntp_article.specs.declared.session.profile.Profile.{Profile}
use Rattle.nntp_wire.specs.Answer.{Asked, Response}
use Rattle.nntp_said.specs.{declared.position.Position.{Position}, Asks.{position_after, current_in}}

-- the state over a spool
abbrev pub state_at : Spool → Visible → Position → State
state_at S v at = record { visible = v; current = current_in (selected_numbers S v) at }

-- each answer is permitted, with the current article read off the session
abbrev pub RunsAt : Profile → Spool → Visible → Position → List Asked → List Response → Type 0
RunsAt profile S v at ps [] = ⊤
RunsAt profile S v at [] (response ∷ more) = ⊥
RunsAt profile S v at (asked ∷ ps) (response ∷ more) =
    MayAnswer profile S (state_at S v at) asked response × RunsAt profile S (visible_after v asked response) (position_after at asked response) ps more
