-- Several sessions read to their ends: an answer that is bad is passed over, and the next one is judged behind those that were accepted, of earlier sessions and of its own.
use Rattle.std.specs.Prelude.{List, [], ◌∷◌, ◌++◌, ⊤}
use Rattle.nntp_article.specs.declared.session.profile.Profile.{Profile}
use Rattle.nntp_pair.specs.Pairing.{Paired, Ending}
use Rattle.nntp_theory.specs.{Reading.{Judged, accepted_of, IsReadingBy}, Permitted.{ArePermittedBehind}}
use Rattle.nntp_several.specs.Sessions.{Recorded}

-- a session as it is read
pub record ReadSession : Type 0 where
  pub answers : List Judged
  pub ending : Ending

-- the readings of sessions, each behind what was accepted in these and in those before it
abbrev pub AreReadings : Profile → List (List Paired) → List Recorded → List ReadSession → Type 0
AreReadings profile earlier [] [] = ⊤
AreReadings profile earlier (s ∷ more) (r ∷ readings) =
    IsReadingBy (ArePermittedBehind profile earlier) s.client s.server r.answers r.ending
    × AreReadings profile (earlier ++ accepted_of r.answers ∷ []) more readings
AreReadings profile earlier sessions readings = ⊥

-- the reading of sessions
abbrev pub IsReadingOfAll : Profile → List Recorded → List ReadSession → Type 0
IsReadingOfAll profile sessions readings = AreReadings profile [] sessions readings
