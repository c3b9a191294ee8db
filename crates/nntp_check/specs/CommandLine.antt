-- How the process ends.
use Rattle.std.specs.Prelude.{◌≡◌, ◌⊎◌, ℕ, Bool, true, false, Result, Ok, Err}
use Rattle.clap.specs.{Words.{kind_of}, declared.error.kind.ErrorKind.{ErrorKind, TheVariants.{DisplayHelp, DisplayVersion, OutOfMemory}}}
use Rattle.nntp_check.specs.declared.{command_line.Failure.{Failure, TheVariants.{Words, ExtraWord, NotText, Help, Run}}, run_fault.RunFault.{RunFault}}

abbrev pub words_status : ErrorKind → ℕ
words_status DisplayHelp = 0
words_status DisplayVersion = 0
words_status OutOfMemory = 3
words_status _ = 2

-- 0 for yes, for help and for the version, 1 for no, 2 for words that are refused, 3 for a fault
abbrev pub exit_status : Result Bool Failure → ℕ
exit_status (Ok true) = 0
exit_status (Ok false) = 1
exit_status (Err (Words error)) = words_status (kind_of error)
exit_status (Err (ExtraWord _)) = 2
exit_status (Err NotText) = 2
exit_status (Err Help) = 3
exit_status (Err (Run _)) = 3

-- the statuses that an outcome may end with: its own; or 3 instead of 0, where it is help that couldn't be written
abbrev pub MayEndWith : Result Bool Failure → ℕ → Type 0
MayEndWith (Ok answer) status = status ≡ exit_status (Ok answer)
MayEndWith (Err failure) status = (status ≡ exit_status (Err failure)) ⊎ ((exit_status (Err failure) ≡ 0) × (status ≡ 3))

-- P of the fault of a run, or Q where there was no run
abbrev pub MatchFailure : (RunFault → Type 0) → Type 0 → Failure → Type 0
MatchFailure P Q (Run fault) = P fault
MatchFailure P Q failure = Q
