-- What the values of src/streams.rt and src/capture_checker.rt mean.
use Rattle.std.specs.Prelude.{◌≡◌, ⊤, ℕ, Bool, List}
use Rattle.nntp_wire.specs.{declared.{limit.Limit.{Limit}, marks.Marks.{Marks}, overviews.Overviews.{Overviews}}, Inner.Held.{held as names_in}}
use Rattle.nntp_article.specs.Session.Limit.{profile_of}
use Rattle.nntp_store.specs.{Faults.{IsFirstFault}, Limited.{LimitedSpool, IsWithinLimit}, Text.{spool_text}}
use Rattle.nntp_several.specs.{Sessions.{unnamed}, Verifying.{VerifiedOfAll, IsVerifiedOfAll}}
use Rattle.nntp_verdict.specs.{Inner.Checking.{StandsForAll}, Verdict.{sessions_verdict_shown}}
use Rattle.nntp_check.specs.{Capture.{Held, session_as, sessions_as, sessions_of}, Report.{names_of, report_of}}
use Rattle.nntp_check.specs.declared.{capture_checker.{JudgedCapture.{JudgedCapture}, CaptureChecker.{CaptureChecker}}, run_fault.RunFault.{RunFault}}
use Rattle.nntp_check.specs.declared.streams.Streams.{Streams}
use Rattle.nntp_check.specs.declared.run_fault.RunFault.TheVariants as faults

-- what was collected
abbrev pub held_in : {A : Type 0} → Streams A → Held
held_in s = record { ended = s.ended.items; last = s.last; spool = s.spool.items }

-- the checker holds what it has to of these sessions, to judge them by the limit and the marks and by how overviews
-- are taken in each, and their names
pub record Judges {A : Type 0} (limit : Limit) (marks : Marks) (overviews : Overviews) (c : CaptureChecker A) (held : Held) : Type 0 where
  pub checks : StandsForAll limit marks c.checker (unnamed (sessions_as overviews held.ended)) (session_as overviews held.last).session
  pub names : names_in c.names.items ≡ names_of (sessions_as overviews held.ended)
  pub last_name : c.last_name.items ≡ held.last.name

-- the report on what is said of the sessions of a capture
abbrev pub judged_report : {A : Type 0} → Bool → JudgedCapture A → List ℕ
judged_report is_several judged = report_of is_several (names_in judged.names.items) (sessions_verdict_shown judged.verdict)

-- a spool has the text that was collected, and this is what it permits of the sessions
pub record VerifiesHeld (marks : Marks) (overviews : Overviews) (held : Held) (verified : VerifiedOfAll) : Type 0 where
  pub value : LimitedSpool
  pub is_spool : IsWithinLimit value
  pub spool_is : held.spool ≡ spool_text value
  pub exact : IsVerifiedOfAll (profile_of value.limit marks) value.spool (unnamed (sessions_of overviews held)) verified

-- why that isn't known: memory is refused, or no spool has the text
abbrev pub IsUnverified : Held → RunFault → Type 0
IsUnverified held faults.Memory = ⊤
IsUnverified held (faults.Spool fault) = IsFirstFault held.spool fault
IsUnverified held fault = ⊥
