-- What a witness of sessions is.
use Rattle.std.specs.{Prelude.{◌≡◌, List, [], ◌∷◌, ◌++◌, map}, List.{AllByRecursion}}
use Rattle.nntp_wire.specs.{Limit.{greatest}, declared.limit.Limit.{Limit}}
use Rattle.nntp_article.specs.{declared.session.profile.Profile.{Profile}, Session.Spool.{Spool, IsSpool}}
use Rattle.nntp_pair.specs.Pairing.{Paired}
use Rattle.nntp_theory.specs.{Answered.{PermitsEach}, Given.{IsGiven}, Permitted.{exchanged}, Inner.Exchanged.{said_behind}}
use Rattle.nntp_facts.specs.Inner.Noted.{FactsKept, HasNotedBehind, profile_kept}
use Rattle.nntp_kept_articles.specs.Inner.Articles.{AreKeptArticles}
use Rattle.nntp_said.specs.Facts.{Fact, Holds}
use Rattle.nntp_store.specs.Limited.{LimitedSpool}

-- the facts haven't failed: they are those of some exchanges of sessions, judged by the limit and the marks that the facts hold
abbrev pub HaveNotedSome : FactsKept → Type 0
HaveNotedSome facts = (earlier : List (List Paired)) × (past : List Paired) × HasNotedBehind (profile_kept facts) facts earlier past

-- ---- by what was said alone

-- this is what was said by the exchanges that the facts noted
pub record HaveNoted (facts : FactsKept) (said : List Fact) : Type 0 where
  pub earlier : List (List Paired)
  pub past : List Paired
  pub stands : HasNotedBehind (profile_kept facts) facts earlier past
  pub said_is : said_behind facts.marks earlier past ≡ said

-- the facts have what was said of ids, though they may have given their groups away
abbrev pub HaveArticles : FactsKept → List Fact → Type 0
HaveArticles facts said = AreKeptArticles said facts.kept.articles

-- the spool is the one that is given for what was said, and has all of it
pub record IsGivenSpool (limit : Limit) (said : List Fact) (S : Spool) : Type 0 where
  pub given : IsGiven said S
  pub is_spool : IsSpool (greatest limit) S
  pub holds : AllByRecursion (Holds S) said

-- ---- by the sessions

-- the spool is the one that is given for what the exchanges say behind those of earlier sessions, and permits each session
pub record IsWitness (profile : Profile) (earlier : List (List Paired)) (past : List Paired) (S : Spool) : Type 0 where
  pub given : IsGiven (said_behind profile.marks earlier past) S
  pub is_spool : IsSpool profile.limit S
  pub permits : PermitsEach profile S (map exchanged earlier ++ exchanged past ∷ [])

-- the spool is the one that is given for what the exchanges say, permits each session, and has this limit
abbrev pub IsWitnessWithin : Limit → Profile → List (List Paired) → List Paired → LimitedSpool → Type 0
IsWitnessWithin limit profile earlier past L = IsWitness profile earlier past L.spool × (L.limit ≡ limit)
