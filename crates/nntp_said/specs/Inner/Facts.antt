-- What is said with the words of `Facts.antt`, and needn't be believed.
use Rattle.std.specs.Prelude.{◌≡◌, false, List, [], ◌∷◌, ⊤, IsTrue}
use Rattle.nntp_article.specs.{Session.Machine.{Visible, visible_after, fits}, declared.session.profile.Profile.{Profile}}
use Rattle.nntp_wire.specs.Answer.{Asked, Response}

-- the visible condition holds at each place, whatever the spool
abbrev pub FitsAll : Profile → Visible → List Asked → List Response → Type 0
FitsAll profile v ps [] = ⊤
FitsAll profile v [] (response ∷ more) = ⊥
FitsAll profile v (asked ∷ ps) (response ∷ more) =
    (v.closed ≡ false) × IsTrue (fits profile v asked response) × FitsAll profile (visible_after v asked response) ps more
