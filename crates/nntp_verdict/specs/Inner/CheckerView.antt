-- What the values of src/checker.rt mean.
use Rattle.std.specs.Prelude.{◌≡◌, ℕ, false, List, [], ◌∷◌, ◌++◌, Option, None, Some, MatchOption}
use Rattle.nntp_wire.specs.declared.{limit.Limit.{Limit}, marks.Marks.{Marks}}
use Rattle.nntp_article.specs.Session.Limit.{profile_of}
use Rattle.nntp_pair.specs.{declared.octet_counts.OctetCounts.{OctetCounts}, Inner.Feeding.{Fed}}
use Rattle.nntp_facts.specs.Inner.Noted.{FactsKept}
use Rattle.nntp_several.specs.Sessions.{Recorded}
use Rattle.nntp_verdict.specs.Inner.{Checking.{Checked, judging, decided, failed, Keeps, HasPassed, StandsForAll}, Judging.{HaveEnded, IsVerdictFrom}}
use Rattle.nntp_verdict.specs.{Verdict.{sessions_verdict_shown}, declared.{sessions_verdict.SessionsVerdict.{SessionsVerdict}, checker.Ongoing.{Ongoing}}}
use Rattle.nntp_verdict.specs.declared.checker.State.{State, TheVariants.{Judging, Decided, Failed}}

-- what a judgement that goes on says, without where it lies in memory
abbrev pub going_on : {A : Type 0} → Ongoing A → Checked
going_on ongoing = judging ongoing.overviews ongoing.judge.facts ongoing.judge.answers.items ongoing.feed

-- what a state says
abbrev pub of_state : {A : Type 0} → State A → Checked
of_state (Judging ongoing) = going_on ongoing
of_state (Decided verdict counts) = decided (sessions_verdict_shown verdict) counts
of_state Failed = failed

-- what is held once this was told: a verdict, behind so many octets of the last session, if there is one
abbrev pub settled : {A : Type 0} → Checked → OctetCounts → Option (SessionsVerdict A) → Checked
settled held counts None = held
settled held counts (Some verdict) = decided (sessions_verdict_shown verdict) counts

-- ---- what a judgement tells of what it holds of any sessions, and what it holds then

-- the exchanges that are whole have passed, or the verdict stands, whatever follows
abbrev pub HasJudged : {A : Type 0} → FactsKept → List ℕ → Fed → FactsKept → List ℕ → Fed → Option (SessionsVerdict A) → Type 0
HasJudged facts answers fed new counts last told = (limit : Limit) (marks : Marks) (before : List Recorded) (session : Recorded)
    → Keeps (profile_of limit marks) before session facts answers fed
    → MatchOption told (HasPassed (profile_of limit marks) before session new counts last × (last.has_failed ≡ false))
    (λ verdict. StandsForAll limit marks (decided (sessions_verdict_shown verdict) fed.counts) before session)

-- the last session has ended too, or its last octets answer nothing: then the verdict is that of these sessions and any that follow
abbrev pub HasEnded : {A : Type 0} → FactsKept → List ℕ → Fed → FactsKept → List ℕ → Option (SessionsVerdict A) → Type 0
HasEnded facts answers fed new counts told = (limit : Limit) (marks : Marks) (before : List Recorded) (session : Recorded)
    → Keeps (profile_of limit marks) before session facts answers fed
    → MatchOption told (HaveEnded (profile_of limit marks) (before ++ session ∷ []) new counts)
    (λ verdict. IsVerdictFrom limit marks before session (sessions_verdict_shown verdict))
