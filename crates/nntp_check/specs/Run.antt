-- What a run reads and writes, at any reader and writer: known octets are those of the traits.
use Rattle.std.specs.Prelude.{◌≡◌, ◌⊎◌, ℕ, ◌+◌, ◌≤◌, ◌<◌, ◌^◌, Bool, true, false, List, [], ◌++◌, length, take, Option, Result, Ok, Err}
use Rattle.std.specs.Io.KnownBytes.{Appends, Consumes, IsAtEnd}
use Rattle.nntp_wire.specs.{declared.{limit.Limit.{Limit}, marks.Marks.{Marks}, overviews.Overviews.{Overviews, TheVariants.{Opaque}}}, Session.{taken}}
use Rattle.nntp_store.specs.{Faults.{IsFirstFault}, Limited.{LimitedSpool, IsWithinLimit}, Text.{spool_text}, Watched.{inner_of}, Writing.{Wrote}}
use Rattle.nntp_store.specs.declared.{text.read_fault.ReadFault.{ReadFault}, watched.Watched.{Watched}}
use Rattle.nntp_article.specs.Session.Limit.{profile_of}
use Rattle.nntp_several.specs.{Sessions.{unnamed}, Verifying.{VerifiedOfAll, IsVerifiedOfAll}}
use Rattle.nntp_explain.specs.Explaining.{IsExplanation, IsExplanationOfAll}
use Rattle.nntp_check.specs.{CommandLine.{MatchFailure, MayEndWith}, Capture.{Captured, Held, sessions_of, AreCapture, BeginsCapture, IsBadPieceForGood}}
use Rattle.nntp_check.specs.{Capture.{IsBadPiece}, Report.{names_of, report_of, verified_report, is_permitted}, Show.{ShownSession, AreShown, shown_report}}
use Rattle.nntp_check.specs.{Show.{are_answered}, declared.{command_line.{Failure.{Failure}, Task.{Task}}, run_fault.RunFault.{RunFault}}}
use Rattle.nntp_verdict.specs.{Judging.{IsVerdictOfAll}, Verdict.{JudgementOfAll, is_consistent_of_all}}
use Rattle.nntp_check.specs.declared.command_line.Task.TheVariants as tasks
use Rattle.nntp_check.specs.declared.run_fault.RunFault.TheVariants as faults

-- what a run read: what the reader had before and what it has after, and how many octets may be read
pub record Input : Type 0 where
  pub before : Option (List ℕ)
  pub after : Option (List ℕ)
  pub most : ℕ

-- what a run wrote: what the writer had before and what it has after
pub record Output : Type 0 where
  pub before : Option (List ℕ)
  pub after : Option (List ℕ)

-- what was read, by the octets that a reader tells
abbrev pub read_by : {R : Type 0} → (R → Option (List ℕ)) → Watched R → Watched R → ℕ → Input
read_by octets before after most = record { before = octets (inner_of before); after = octets (inner_of after); most = most }

-- what was written, by the octets that a writer tells
abbrev pub written_by : {W : Type 0} → (W → Option (List ℕ)) → Watched W → Watched W → Output
written_by octets before after = record { before = octets (inner_of before); after = octets (inner_of after) }

-- these octets were read, no more than may be, and no more are left
pub record ReadsAll (input : Input) (octets : List ℕ) : Type 0 where
  pub consumed : Consumes input.before input.after octets
  pub end : IsAtEnd input.after
  pub few : length octets ≤ input.most

-- what was read is no more octets than may be, and begins a capture: no piece of it is bad whatever follows
pub record ReadsFront (input : Input) : Type 0 where
  pub octets : List ℕ
  pub consumed : Consumes input.before input.after octets
  pub few : length octets ≤ input.most
  pub begun : BeginsCapture octets

-- so is what was read before these last octets, which one read gives
pub record ReadsFrontBut (input : Input) : Type 0 where
  pub front : List ℕ
  pub last : List ℕ
  pub consumed : Consumes input.before input.after (front ++ last)
  pub few : length front ≤ input.most
  pub begun : BeginsCapture front
  pub near : length last ≤ 2 ^ 16

-- more octets came than may be read, by no more than one read gives, and as many as may be begin a capture
pub record ReadsMore (input : Input) : Type 0 where
  pub octets : List ℕ
  pub consumed : Consumes input.before input.after octets
  pub many : input.most < length octets
  pub near : length octets ≤ input.most + 2 ^ 16
  pub begun : BeginsCapture (take input.most octets)

-- what was read is this capture
pub record ReadsCapture (input : Input) (captured : Captured) : Type 0 where
  pub octets : List ℕ
  pub all : ReadsAll input octets
  pub capture : AreCapture octets captured

-- what was read has this bad piece: a front of it, of no more octets than may be, whatever follows; or all of it, if the input ends there. No more is behind the front than one read gives
pub record ReadsBadPiece (input : Input) (piece : ℕ) : Type 0 where
  pub front : List ℕ
  pub rest : List ℕ
  pub consumed : Consumes input.before input.after (front ++ rest)
  pub few : length front ≤ input.most
  pub near : length rest ≤ 2 ^ 16
  pub bad : IsBadPieceForGood front piece ⊎ (IsBadPiece front piece × (rest ≡ []) × IsAtEnd input.after)

-- why no capture was read. Where a read fails or memory is refused, no bad piece came before and not too many octets
abbrev pub IsInputFault : Input → RunFault → Type 0
IsInputFault input faults.Read = ReadsFront input
IsInputFault input faults.TooLong = ReadsMore input
IsInputFault input (faults.Capture piece) = ReadsBadPiece input piece
IsInputFault input (faults.Spool fault) = ⊥
IsInputFault input faults.Memory = ReadsFrontBut input
IsInputFault input faults.Write = ⊥

-- the report of `check` on the sessions of a capture, by the limit and the marks and by how overviews are taken, and its answer
pub record CheckReports (limit : Limit) (marks : Marks) (overviews : Overviews) (c : Captured) (text : List ℕ) (answer : Bool) : Type 0 where
  pub judgement : JudgementOfAll
  pub verdict : IsVerdictOfAll limit marks (unnamed (sessions_of overviews c.held)) judgement
  pub text_is : text ≡ report_of c.is_several (names_of (sessions_of overviews c.held)) judgement
  pub answer_is : answer ≡ is_consistent_of_all judgement

-- the report of `verify` on them and on the spool's text, by the spool's limit, by the marks and by how overviews are taken, and its answer
pub record VerifyReports (marks : Marks) (overviews : Overviews) (c : Captured) (text : List ℕ) (answer : Bool) : Type 0 where
  pub value : LimitedSpool
  pub is_spool : IsWithinLimit value
  pub spool_is : c.held.spool ≡ spool_text value
  pub verified : VerifiedOfAll
  pub exact : IsVerifiedOfAll (profile_of value.limit marks) value.spool (unnamed (sessions_of overviews c.held)) verified
  pub text_is : text ≡ verified_report c.is_several (names_of (sessions_of overviews c.held)) verified
  pub answer_is : answer ≡ is_permitted verified

-- the report of `show` on them, where overviews are opaque, and its answer: the spool's text makes no difference
pub record ShowReports (c : Captured) (text : List ℕ) (answer : Bool) : Type 0 where
  pub shown : List ShownSession
  pub are_shown : AreShown (sessions_of Opaque c.held) shown
  pub text_is : text ≡ shown_report c.is_several 1 shown
  pub answer_is : answer ≡ are_answered shown

-- the report of `explain` on what pieces hold: on several sessions, or on the only one
abbrev pub ExplainsHeld : Limit → Marks → Overviews → Bool → Held → List ℕ → Bool → Type 0
ExplainsHeld limit marks overviews true held text answer = IsExplanationOfAll limit marks (sessions_of overviews held) text answer
ExplainsHeld limit marks overviews false held text answer = IsExplanation limit marks (taken overviews held.last.session.client.octets) held.last.session.server text answer

-- the report of `explain` on them, by the limit and the marks and by how overviews are taken, and its answer: the spool's text makes no difference
abbrev pub ExplainReports : Limit → Marks → Overviews → Captured → List ℕ → Bool → Type 0
ExplainReports limit marks overviews c text answer = ExplainsHeld limit marks overviews c.is_several c.held text answer

-- what was read is a capture, and what was written is the report on it
pub record IsReported (Reports : Captured → List ℕ → Bool → Type 0) (input : Input) (output : Output) (answer : Bool) : Type 0 where
  pub captured : Captured
  pub capture : ReadsCapture input captured
  pub text : List ℕ
  pub reports : Reports captured text answer
  pub whole : Appends output.before output.after text

-- the writer took a front of the report
pub record IsCutShort (Reports : Captured → List ℕ → Bool → Type 0) (input : Input) (output : Output) : Type 0 where
  pub captured : Captured
  pub capture : ReadsCapture input captured
  pub text : List ℕ
  pub answer : Bool
  pub reports : Reports captured text answer
  pub left : List ℕ
  pub front : Wrote output.before output.after text left

-- what was read is a capture, and its spool pieces are the text of no spool, by this fault
pub record ReadsNoSpool (input : Input) (fault : ReadFault) : Type 0 where
  pub captured : Captured
  pub capture : ReadsCapture input captured
  pub first : IsFirstFault captured.held.spool fault

-- why a run that reads no spool gives no answer: a fault of the input, or a report that is cut short
abbrev pub IsFaultOf : (Captured → List ℕ → Bool → Type 0) → Input → Output → RunFault → Type 0
IsFaultOf Reports input output faults.Write = IsCutShort Reports input output
IsFaultOf Reports input output fault = IsInputFault input fault

-- why `check` gives no answer
abbrev pub IsCheckFault : Limit → Marks → Overviews → Input → Output → RunFault → Type 0
IsCheckFault limit marks overviews = IsFaultOf (CheckReports limit marks overviews)

-- why `show` gives no answer
abbrev pub IsShowFault : Input → Output → RunFault → Type 0
IsShowFault = IsFaultOf ShowReports

-- why `verify` gives no answer: the same, or the text of no spool
abbrev pub IsVerifyFault : Marks → Overviews → Input → Output → RunFault → Type 0
IsVerifyFault marks overviews input output (faults.Spool fault) = ReadsNoSpool input fault
IsVerifyFault marks overviews input output fault = IsFaultOf (VerifyReports marks overviews) input output fault

-- why `explain` gives no answer
abbrev pub IsExplainFault : Limit → Marks → Overviews → Input → Output → RunFault → Type 0
IsExplainFault limit marks overviews = IsFaultOf (ExplainReports limit marks overviews)

-- the report of a task, and its answer
abbrev pub TaskReports : Task → Captured → List ℕ → Bool → Type 0
TaskReports (tasks.Check limit marks overviews) = CheckReports limit marks overviews
TaskReports (tasks.Verify marks overviews) = VerifyReports marks overviews
TaskReports tasks.Show = ShowReports
TaskReports (tasks.Explain limit marks overviews) = ExplainReports limit marks overviews

-- why a task gives no answer
abbrev pub IsTaskFault : Task → Input → Output → RunFault → Type 0
IsTaskFault (tasks.Check limit marks overviews) = IsCheckFault limit marks overviews
IsTaskFault (tasks.Verify marks overviews) = IsVerifyFault marks overviews
IsTaskFault tasks.Show = IsShowFault
IsTaskFault (tasks.Explain limit marks overviews) = IsExplainFault limit marks overviews

-- how the program's words are done: the report of a task is written, or a task has a fault; or nothing is read or written. No task reads more than 2^30 octets
abbrev pub EndsRun : {R W : Type 0} → (R → Option (List ℕ)) → (W → Option (List ℕ)) → Watched R → Watched R → Watched W → Watched W → Result Bool Failure → Type 0
EndsRun remaining contents before after empty written (Ok answer) = (task : Task) × IsReported (TaskReports task) (read_by remaining before after (2 ^ 30)) (written_by contents empty written) answer
EndsRun remaining contents before after empty written (Err failure) = MatchFailure (λ fault. (task : Task)
    × IsTaskFault task (read_by remaining before after (2 ^ 30)) (written_by contents empty written) fault) ((after ≡ before) × (written ≡ empty)) failure

-- they are done so, and the status is that of how they are done
abbrev pub EndsProgram : {R W : Type 0} → (R → Option (List ℕ)) → (W → Option (List ℕ)) → Watched R → Watched R → Watched W → Watched W → ℕ → Type 0
EndsProgram remaining contents before after empty written status = (outcome : Result Bool Failure) × EndsRun remaining contents before after empty written outcome × MayEndWith outcome status
