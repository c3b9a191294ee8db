-- What is said of a session, and of several.
use Rattle.std.specs.{Prelude.{ℕ, Bool, true, false, List, Option}, Option.{option_map}}
use Rattle.nntp_pair.specs.declared.class.Class.{Class}
use Rattle.nntp_store.specs.Limited.{LimitedSpool}
use Rattle.nntp_verdict.specs.declared.{verdict.Verdict.{Verdict, TheVariants.{Consistent, Bad}}, sessions_verdict.SessionsVerdict.{SessionsVerdict}}
use Rattle.nntp_verdict.specs.declared.sessions_verdict.SessionsVerdict.TheVariants as several

-- a verdict: a spool that explains so many answers, or the answer that none explains
pub data Judgement : Type 0 where
  consistent : (spool : LimitedSpool) → (answers : ℕ) → Judgement
  bad : (answer : ℕ) → (class : Class) → (command : Option (List ℕ)) → (reply : List ℕ) → Judgement

-- the verdict without where it lies in memory
abbrev pub verdict_shown : {A : Type 0} → Verdict A → Judgement
verdict_shown (Consistent spool answers) = consistent spool answers
verdict_shown (Bad answer class command reply) = bad answer class (option_map (λ line. line.items) command) reply.items

-- ---- of several

-- a verdict: a spool that explains so many answers of each session; or the answer of a session that none explains
pub data JudgementOfAll : Type 0 where
  consistent_of_all : (spool : LimitedSpool) → (answers : List ℕ) → JudgementOfAll
  bad_of_all : (session : ℕ) → (answer : ℕ) → (class : Class) → (command : Option (List ℕ)) → (reply : List ℕ) → JudgementOfAll

-- some spool was found
abbrev pub is_consistent_of_all : JudgementOfAll → Bool
is_consistent_of_all (consistent_of_all spool answers) = true
is_consistent_of_all (bad_of_all session answer class command reply) = false

-- the verdict without where it lies in memory
abbrev pub sessions_verdict_shown : {A : Type 0} → SessionsVerdict A → JudgementOfAll
sessions_verdict_shown (several.Consistent spool answers) = consistent_of_all spool answers.items
sessions_verdict_shown (several.Bad session answer class command reply) = bad_of_all session answer class (option_map (λ line. line.items) command) reply.items
