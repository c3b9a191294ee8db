-- What is said with the words of `Checking.antt`, and needn't be believed.
use Rattle.std.specs.Prelude.{◌≡◌, ℕ, ◌+◌, ◌^◌, ◌<◌, ◌≤◌, ⊤, Bool, true, false, List, [], ◌∷◌, ◌++◌, length, map, Option, None, Some}
use Rattle.nntp_wire.specs.{declared.{limit.Limit.{Limit}, marks.Marks.{Marks}, overviews.Overviews.{Overviews}}, Session.{ClientStream, taken}}
use Rattle.nntp_article.specs.{Session.Limit.{profile_of}, declared.session.profile.Profile.{Profile}}
use Rattle.nntp_pair.specs.{Pairing.{Paired, HasNext}, Inner.{Sides.{given, count_of}, Feeding.{Fed, IsFed, left_of}}}
use Rattle.nntp_pair.specs.declared.{octet_counts.OctetCounts.{OctetCounts}, side.Side.{Side, TheVariants.{Client, Server}}, pair_error.PairError.{PairError}}
use Rattle.nntp_pair.specs.declared.class.Class.{Class}
use Rattle.nntp_facts.specs.Inner.Noted.{FactsKept, HasNotedBehind, profile_kept}
use Rattle.nntp_several.specs.{Inner.Paired.{ArePaired}, Sessions.{Recorded}, Told.{with_more, IsToldBadOfAll}}
use Rattle.nntp_verdict.specs.{Judging.{IsVerdict, IsVerdictOfAll}, Inner.Judging.{IsVerdictFrom, IsNoForGood}, Verdict.{Judgement, JudgementOfAll}}
use Rattle.nntp_verdict.specs.Verdict.{consistent_of_all, bad_of_all}
use Rattle.nntp_pair.specs.declared.pair_error.PairError.TheVariants as errors

-- ---- what a checker holds

-- how overviews are taken, the facts of the exchanges that passed, how many answers each session has that ended, and
-- what has come of the last session behind them; or the judgement, once nothing that follows can change it, and how many
-- octets came of each stream of that session; or that memory was refused
pub data Checked : Type 0 where
  judging : (overviews : Overviews) → (facts : FactsKept) → (answers : List ℕ) → (fed : Fed) → Checked
  decided : (judgement : JudgementOfAll) → (counts : OctetCounts) → Checked
  failed : Checked

-- memory was refused
abbrev pub has_failed : Checked → Bool
has_failed failed = true
has_failed held = false

-- how many octets came of each stream of the last session
abbrev pub counts_of : Checked → OctetCounts
counts_of (judging overviews facts answers fed) = fed.counts
counts_of (decided judgement counts) = counts
counts_of failed = record { client = 0; server = 0 }

-- ---- what that stands for

-- a session of which nothing came yet, where they are taken so
abbrev pub unrecorded : Overviews → Recorded
unrecorded overviews = record { client = taken overviews []; server = [] }

-- sessions have ended, each with so many answers, and exchanges of one more have passed; some spool permits all of these, and the facts are theirs
pub record Keeps (profile : Profile) (before : List Recorded) (session : Recorded) (facts : FactsKept) (answers : List ℕ) (fed : Fed) : Type 0 where
  pub earlier : List (List Paired)
  pub ended : ArePaired before earlier
  pub answers_are : answers ≡ map length earlier
  pub pairs : List Paired
  pub fed_is : IsFed fed session.client session.server pairs
  pub stands : HasNotedBehind profile facts earlier pairs

-- and all exchanges that are whole have passed
pub record HasPassed (profile : Profile) (before : List Recorded) (session : Recorded) (facts : FactsKept) (answers : List ℕ) (fed : Fed) : Type 0 where
  pub keeps : Keeps profile before session facts answers fed
  pub all : ¬ (HasNext (left_of fed))

-- it is held of some sessions, by the limit and the marks that the facts hold, and memory wasn't refused
pub record IsHeld (facts : FactsKept) (answers : List ℕ) (fed : Fed) : Type 0 where
  pub before : List Recorded
  pub session : Recorded
  pub passed : HasPassed (profile_kept facts) before session facts answers fed
  pub is_whole : fed.has_failed ≡ false

-- what a checker holds while its judgement goes on, it holds of some sessions
abbrev pub IsSound : Checked → Type 0
IsSound (judging overviews facts answers fed) = IsHeld facts answers fed
IsSound (decided judgement counts) = ⊤
IsSound failed = ⊤

-- the judgement is the verdict, whatever octets of the last session and whatever sessions follow: a no that nothing can mend
pub record IsDecided (limit : Limit) (marks : Marks) (judgement : JudgementOfAll) (before : List Recorded) (session : Recorded) : Type 0 where
  pub for_good : IsNoForGood before judgement
  pub verdict : (client server : List ℕ) → IsVerdictFrom limit marks before (with_more session client server) judgement

-- these sessions came, and octets of one more, joined, and the checker holds what it has to of them, to judge them by this
-- limit and these marks; where it goes on, it takes overviews as they are taken in the last one
abbrev pub StandsForAll : Limit → Marks → Checked → List Recorded → Recorded → Type 0
StandsForAll limit marks (judging overviews facts answers fed) before session =
    HasPassed (profile_of limit marks) before session facts answers fed × (session.client.overviews ≡ overviews)
StandsForAll limit marks (decided judgement counts) before session =
    IsDecided limit marks judgement before session × (counts.client ≡ length session.client.octets) × (counts.server ≡ length session.server)
StandsForAll limit marks failed before session = ⊥

-- these octets of both streams of one session came, and no session before it
abbrev pub StandsFor : Limit → Marks → Checked → ClientStream → List ℕ → Type 0
StandsFor limit marks held client server = StandsForAll limit marks held [] (record { client = client; server = server })

-- ---- what its calls do

-- octets of this side were taken: the checker holds what it has to of those that came before with these behind
pub record IsTaken (side : Side) (octets : List ℕ) (before after : Checked) : Type 0 where
  pub worked : has_failed before ≡ false
  pub room : count_of side (counts_of before) + length octets < 2 ^ 64
  pub stands : (limit : Limit) (marks : Marks) (ended : List Recorded) (session : Recorded) → StandsForAll limit marks before ended session
      → StandsForAll limit marks after ended (with_more session (given Client side octets) (given Server side octets))

-- no octets of this side were taken, for this reason, and this is left
abbrev pub IsUntaken : PairError → Side → List ℕ → Checked → Checked → Type 0
IsUntaken errors.Failed side octets before after = (has_failed before ≡ true) × (after ≡ before)
IsUntaken errors.TooLong side octets before after =
    (has_failed before ≡ false) × (2 ^ 64 ≤ count_of side (counts_of before) + length octets) × (after ≡ before)
IsUntaken errors.Memory side octets before after =
    (has_failed before ≡ false) × (count_of side (counts_of before) + length octets < 2 ^ 64) × (has_failed after ≡ true)

-- the next session has begun: the checker holds what it has to of those that came before, and of one of which nothing came
-- and in which overviews are taken as in the last
pub record HasBegun (before after : Checked) : Type 0 where
  pub worked : has_failed before ≡ false
  pub stands : (limit : Limit) (marks : Marks) (ended : List Recorded) (session : Recorded) → StandsForAll limit marks before ended session
      → StandsForAll limit marks after (ended ++ session ∷ []) (unrecorded session.client.overviews)

-- no session has begun, for this reason, and this is left
abbrev pub IsUnbegun : PairError → Checked → Checked → Type 0
IsUnbegun errors.Failed before after = (has_failed before ≡ true) × (after ≡ before)
IsUnbegun errors.TooLong before after = ⊥
IsUnbegun errors.Memory before after = (has_failed before ≡ false) × (has_failed after ≡ true)

-- the judgement is the verdict on the sessions that came
pub record IsFinishedOfAll (held : Checked) (judgement : JudgementOfAll) : Type 0 where
  pub worked : has_failed held ≡ false
  pub verdict : (limit : Limit) (marks : Marks) (before : List Recorded) (session : Recorded) → StandsForAll limit marks held before session
      → IsVerdictOfAll limit marks (before ++ session ∷ []) judgement

-- it is the verdict on the octets that came of one
pub record IsFinished (held : Checked) (judgement : Judgement) : Type 0 where
  pub worked : has_failed held ≡ false
  pub verdict : (limit : Limit) (marks : Marks) (client : ClientStream) (server : List ℕ) → StandsFor limit marks held client server → IsVerdict limit marks client server judgement

-- no verdict is given, for this reason
abbrev pub IsUnfinished : PairError → Checked → Type 0
IsUnfinished errors.Memory held = has_failed held ≡ false
IsUnfinished errors.Failed held = has_failed held ≡ true
IsUnfinished errors.TooLong held = ⊥

-- ---- what is told as bad

-- the answer that a judgement calls bad, its session and its class
abbrev pub told_bad : JudgementOfAll → Option (ℕ × ℕ × Class)
told_bad (consistent_of_all L answers) = None
told_bad (bad_of_all j k class command reply) = Some (j, k, class)

-- the answer and the class without the session
abbrev pub without_session : Option (ℕ × ℕ × Class) → Option (ℕ × Class)
without_session None = None
without_session (Some bad) = Some (bad.1, bad.2)

-- what is told of the sessions that came: without its session the answer that is bad for good, if there is one
abbrev pub IsToldWithoutSession : Profile → List Recorded → Recorded → Option (ℕ × Class) → Type 0
IsToldWithoutSession profile before session told = (bad : Option (ℕ × ℕ × Class)) × IsToldBadOfAll profile before session bad × (told ≡ without_session bad)
