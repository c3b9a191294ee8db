-- How far sessions are judged, one exchange after the other.
use Rattle.std.specs.Prelude.{List}
use Rattle.nntp_article.specs.declared.session.profile.Profile.{Profile}
use Rattle.nntp_pair.specs.Pairing.{Paired, Unpaired, AreNext, streams}
use Rattle.nntp_facts.specs.Inner.Noted.{FactsKept, HasNotedBehind}
use Rattle.nntp_several.specs.{Inner.Paired.{ArePaired}, Sessions.{Recorded}}

-- sessions have passed whole, and exchanges of one more; the facts are those of all of them; and then this is left
pub record PassedOfAll (profile : Profile) (before : List Recorded) (session : Recorded) (facts : FactsKept) (left : Unpaired) : Type 0 where
  pub earlier : List (List Paired)
  pub ended : ArePaired before earlier
  pub pairs : List Paired
  pub next : AreNext (streams session.client session.server) pairs left
  pub stands : HasNotedBehind profile facts earlier pairs
