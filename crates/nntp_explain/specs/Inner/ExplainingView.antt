-- What the values of src/explainer.rt mean.
use Rattle.std.specs.Prelude.{◌≡◌, ℕ, zero, suc, ◌+◌, ◌≤◌, ◌<◌, ◌^◌, ◌⊎◌, Bool, List, [], ◌∷◌, ◌++◌, length, map, drop, Option, None, Contains}
use Rattle.std.specs.{List.{AllByRecursion}, Option.{option_copied, option_map_or}}
use Rattle.nntp_wire.specs.{Answer.{Asked}, Misspelling.{misspelling}, Session.{ClientStream}}
use Rattle.nntp_article.specs.{Session.Misfit.{misfit}, declared.session.profile.Profile.{Profile}}
use Rattle.nntp_pair.specs.{Pairing.{Paired, Unpaired, asked_at, streams}, declared.class.Class.{Class}, Inner.Pairing.{lines_in}}
use Rattle.nntp_theory.specs.{Conflict.{Placed, SomeHas, told, told_with, below}, Inner.Conflict.{FitsThere}, Permitted.{ArePermittedBehind}, Reading.{Judged}}
use Rattle.nntp_theory.specs.Reading.{accepted_of, AreJudged, IsReadingBy}
use Rattle.nntp_facts.specs.{Inner.{Noted.{FactsKept, HasNotedBehind, begun, profile_kept}, Points.{AreHeld, held_by}}, declared.standing.Standing.{Standing}}
use Rattle.nntp_facts.specs.{declared.placed.Placed.{Placed as Cited}, Standing.{nowhere, standing, standing_after, stands_of}}
use Rattle.nntp_several.specs.{Reading.{ReadSession, IsReadingOfAll}, Sessions.{Named, Recorded, unnamed}}
use Rattle.nntp_printing.specs.Title.{title_line}
use Rattle.nntp_explain.specs.{declared.explainer.Explainer.{Explainer}, Standing.{cited_at, cited_each, number_behind, cited_of_all}}
use Rattle.nntp_explain.specs.{Inner.Explaining.{ToldContradiction}, Explaining.{IsTold, IsConflictOf, AreExplained, count_bad, IsSessionExplained, Counts}}
use Rattle.nntp_explain.specs.Explaining.{IsConflictWithSome, IsContradiction, WasRefused, are_looked_for, counts_of, titled, none_counted}
use Rattle.nntp_explain.specs.{Explaining.{AreSessionsExplained}, Reasons.{unfitting_lines, misspelling_line}}
use Rattle.nntp_said.specs.Facts.{Fact}

-- what is kept of answers that were judged: what the accepted ones say, and each of them where it stands; the number of the session, how many of them are of earlier ones, and its name until it is
-- told; where it stands, and which contradictions of it were told; and how many are bad
pub record Kept : Type 0 where
  pub facts : FactsKept
  pub accepted : List Cited
  pub session : ℕ
  pub others : ℕ
  pub title : Option (List ℕ)
  pub stands : Standing
  pub contradictions : List ToldContradiction
  pub bad : ℕ

-- the same as a further session begins
abbrev pub begins : Option (List ℕ) → Kept → Kept
begins title k = record {
  facts = begun k.facts;
  accepted = k.accepted;
  session = k.session + 1;
  others = length k.accepted;
  title = title;
  stands = nowhere;
  contradictions = [];
  bad = k.bad;
}

-- an answer of the session where that stands
abbrev pub cited_here : Kept → Paired → Cited
cited_here k pair = cited_at k.session k.stands pair

-- the same with one more accepted answer
abbrev pub keeps : Paired → Kept → Kept
keeps pair k = record k { accepted = k.accepted ++ cited_here k pair ∷ []; stands = standing_after k.stands pair }

-- the same with one more bad answer, which is told behind the name
abbrev pub refuses : Kept → Kept
refuses k = record k { title = None; bad = k.bad + 1 }

-- the line of the name, until it is told
abbrev pub title_of : Kept → List ℕ
title_of k = option_map_or (title_line k.session) k.title []

-- why an answer doesn't fit what is kept of its session
abbrev pub unfitting_told : Kept → Paired → List ℕ
unfitting_told k pair =
    option_map_or (unfitting_lines k.session (drop k.others k.accepted) pair.response)
    (misfit (profile_kept k.facts) k.facts.visible (asked_at pair.place) pair.response) []

-- ---- sessions that were read whole

-- this is kept of these accepted answers of sessions that were read whole
pub record AreKept (profile : Profile) (earlier : List (List Paired)) (kept : Kept) : Type 0 where
  pub noted : HasNotedBehind profile (begun kept.facts) earlier []
  pub accepted_are : kept.accepted ≡ cited_each 1 earlier
  pub session_is : kept.session ≡ length earlier

-- what a session is read behind: the accepted answers of earlier ones, how many answers are bad, and what is told; and its name, if it is told
pub record Before : Type 0 where
  pub earlier : List (List Paired)
  pub bad : ℕ
  pub text : List ℕ
  pub title : Option (List ℕ)

-- ---- a session that is read

-- of each of these contradictions the reason is that of the bad answer behind all accepted ones that are kept
abbrev pub AreReasons : Profile → Kept → List ToldContradiction → Type 0
AreReasons profile k contradictions = AllByRecursion (λ c. IsConflictOf k.session profile c.bad k.accepted c.reason) contradictions

-- the name that is still to be told where so many answers of the session are bad
abbrev pub untold : Option (List ℕ) → ℕ → Option (List ℕ)
untold title zero = title
untold title (suc bad) = None

-- the line of it that is told then
abbrev pub title_told : ℕ → Option (List ℕ) → ℕ → List ℕ
title_told number title bad = option_map_or (λ name. titled number name bad) title []

-- answers of both streams were judged, this is kept of them, and this is told; and then this is left
pub record AreTold (profile : Profile) (b : Before) (client : ClientStream) (server : List ℕ) (kept : Kept) (text : List ℕ) (left : Unpaired) : Type 0 where
  pub answers : List Judged
  pub judged : AreJudged (ArePermittedBehind profile b.earlier) [] (streams client server) answers left
  pub noted : HasNotedBehind profile kept.facts b.earlier (accepted_of answers)
  pub accepted_are : kept.accepted ≡ cited_of_all b.earlier (accepted_of answers)
  pub session_is : kept.session ≡ number_behind b.earlier
  pub others_are : kept.others ≡ length (cited_each 1 b.earlier)
  pub title_is : kept.title ≡ untold b.title (count_bad answers)
  pub stands_there : kept.stands ≡ standing (accepted_of answers)
  pub reasons : AreReasons profile kept kept.contradictions
  pub refused : AllByRecursion (λ c. WasRefused answers c.bad) kept.contradictions
  pub bad_are : kept.bad ≡ b.bad + count_bad answers
  pub few : kept.bad ≤ length text
  pub told : List ℕ
  pub explained : AreExplained profile b.earlier b.bad [] answers told
  pub silent : count_bad answers ≡ 0 → told ≡ []
  pub text_is : text ≡ b.text ++ title_told (number_behind b.earlier) b.title (count_bad answers) ++ told

-- both streams were read to their end, this is kept, and this is told; and so many lines have no answer
pub record IsRead (profile : Profile) (b : Before) (client : ClientStream) (server : List ℕ) (kept : Kept) (text : List ℕ) (unanswered : ℕ) : Type 0 where
  pub read : ReadSession
  pub reading : IsReadingBy (ArePermittedBehind profile b.earlier) client server read.answers read.ending
  pub noted : HasNotedBehind profile kept.facts b.earlier (accepted_of read.answers)
  pub accepted_are : kept.accepted ≡ cited_of_all b.earlier (accepted_of read.answers)
  pub session_is : kept.session ≡ number_behind b.earlier
  pub few : kept.bad ≤ length text
  pub bad_are : kept.bad ≡ b.bad + (counts_of read reading.left).bad
  pub unanswered_are : unanswered ≡ (counts_of read reading.left).unanswered
  pub lines : List ℕ
  pub explained : IsSessionExplained profile b.earlier b.bad read reading.left lines
  pub text_is : text ≡ b.text ++ title_told (number_behind b.earlier) b.title (counts_of read reading.left).bad ++ lines

-- ---- all sessions

-- the accepted answers of these, and of sessions that were read behind them
abbrev pub accepted_behind : List (List Paired) → List ReadSession → List (List Paired)
accepted_behind earlier [] = earlier
accepted_behind earlier (read ∷ readings) = accepted_behind (earlier ++ accepted_of read.answers ∷ []) readings

-- these sessions were read, this is kept of them, and this is told; and so many lines have no answer
pub record HaveRead (profile : Profile) (sessions : List Named) (kept : Kept) (text : List ℕ) (unanswered : ℕ) : Type 0 where
  pub readings : List ReadSession
  pub are_readings : IsReadingOfAll profile (unnamed sessions) readings
  pub are_kept : AreKept profile (accepted_behind [] readings) kept
  pub as_many : length (accepted_behind [] readings) ≡ length sessions
  pub few : kept.bad ≤ length text
  pub counts : Counts
  pub answers_are : length kept.accepted + kept.bad ≡ counts.answers
  pub bad_are : kept.bad ≡ counts.bad
  pub unanswered_are : unanswered ≡ counts.unanswered
  pub explained : AreSessionsExplained profile [] none_counted sessions readings are_readings text counts

-- ---- the explainer

-- what an explainer keeps
abbrev pub kept_of : {A : Type 0} → Explainer A → Kept
kept_of e = record {
  facts = e.facts;
  accepted = e.accepted.items;
  session = e.session;
  others = e.others;
  title = option_copied e.title;
  stands = e.standing;
  contradictions = e.contradictions.items;
  bad = e.bad;
}

-- it has read nothing
abbrev pub HasReadNone : {A : Type 0} → Explainer A → Type 0
HasReadNone e = AreKept (profile_kept e.facts) [] (kept_of e) × (e.bad ≡ 0) × (e.text.items ≡ [])

-- what the explainer keeps and tells is that of answers of both streams
abbrev pub HasTold : {A : Type 0} → Profile → Before → ClientStream → List ℕ → Explainer A → Unpaired → Type 0
HasTold profile b client server e left = AreTold profile b client server (kept_of e) e.text.items left

-- this is kept before any answer of a session
abbrev pub HasBegun : {A : Type 0} → Profile → Before → Recorded → Explainer A → Type 0
HasBegun profile b s e = HasTold profile b s.client s.server e (streams s.client s.server)

-- the text goes on with more, of which this is so
abbrev pub GoesOn : (List ℕ → Type 0) → List ℕ → List ℕ → Type 0
GoesOn P old new = (more : List ℕ) × (new ≡ old ++ more) × P more

-- ---- an answer that is bad beside what is kept

-- why a frame that is passed over spells nothing
abbrev pub unspelled_lines : Asked → List ℕ → Option (List ℕ) → List ℕ
unspelled_lines asked initial block = option_map_or misspelling_line (misspelling asked initial block) []

-- the answer of an exchange where it stands
abbrev pub placed_here : Kept → Paired → Placed
placed_here k pair = stands_of (cited_here k pair)

-- it fits where it stands, as each accepted answer does
abbrev pub Fits : Kept → Placed → Type 0
Fits k bad = AllByRecursion (FitsThere (profile_kept k.facts)) (bad ∷ map stands_of k.accepted)

-- no spool has what it says and what all accepted answers say
abbrev pub Contradicts : Kept → Placed → Type 0
Contradicts k bad = SomeHas (profile_kept k.facts) (told_with (profile_kept k.facts) bad (map stands_of k.accepted) (below (length (map stands_of k.accepted)))) → ⊥

-- some spool has what it says
abbrev pub StandsAlone : Kept → Placed → Type 0
StandsAlone k bad = SomeHas (profile_kept k.facts) (told (profile_kept k.facts) bad)

-- the text tells with which accepted answers it conflicts, and about what
abbrev pub TellsConflict : Kept → Placed → List ℕ → Type 0
TellsConflict k bad text = IsConflictOf k.session (profile_kept k.facts) bad k.accepted text

-- a reason was told of the same answer
abbrev pub HasReason : Kept → Placed → Type 0
HasReason k bad = (reason : List ℕ) × Contains k.contradictions (record { bad = bad; reason = reason })

-- all that was accepted says these facts, and they refuse it
abbrev pub IsRefused : Kept → List Fact → Placed → Type 0
IsRefused k facts bad = lines_in bad.response < 2 ^ 64 → AreHeld (profile_kept k.facts) (facts ++ told (profile_kept k.facts) bad) (held_by k.facts bad)

-- the text is its reason, whether or not the answers that it conflicts with are looked for
abbrev pub TellsContradiction : Bool → Kept → List Fact → Placed → List ℕ → Type 0
TellsContradiction looked_for k facts bad text = IsContradiction looked_for (HasReason k bad) k.session (profile_kept k.facts) facts bad k.accepted text

-- the same of one that comes next, by how many are bad before it
abbrev pub TellsNext : Kept → List Fact → Placed → List ℕ → Type 0
TellsNext k facts bad text = TellsContradiction (are_looked_for k.bad (length k.accepted)) k facts bad text

-- the text tells that it conflicts with some of the accepted answers
abbrev pub TellsSome : Kept → List Fact → Placed → List ℕ → Type 0
TellsSome k facts bad text = IsConflictWithSome k.session (profile_kept k.facts) facts bad k.accepted text

-- the reason of this answer is kept too, or no further one
abbrev pub AddsReason : Placed → List ToldContradiction → List ToldContradiction → Type 0
AddsReason bad old new = (new ≡ old) ⊎ ((reason : List ℕ) × (new ≡ old ++ record { bad = bad; reason = reason } ∷ []))

-- the report goes on with a bad answer, behind the name of its session where that is untold: its lines, where the session stands, and a reason
abbrev pub TellsBad : Kept → ℕ → Class → Option (List ℕ) → List ℕ → (List ℕ → Type 0) → List ℕ → List ℕ → Type 0
TellsBad k index class line initial Reason old new =
    GoesOn (IsTold k.bad k.stands index class line initial Reason) (old ++ title_of k) new
