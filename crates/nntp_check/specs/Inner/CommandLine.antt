-- What is said with the words of `CommandLine.antt`, and needn't be believed.
use Rattle.std.specs.{Prelude.{◌≡◌, ◌⊎◌, ⊤, ℕ, Bool, Result, Ok, Err}, declared.process.ExitCode.{ExitCode}}
use Rattle.nntp_check.specs.{declared.command_line.Failure.{Failure, TheVariants.{Help}}, CommandLine.{exit_status, MatchFailure}}
use Rattle.std.specs.Process as process

-- the status that the process ends with
abbrev pub code_status : ExitCode → ℕ
code_status code = process.exit_status code

-- an outcome stays as it is; or it is help that couldn't be written
abbrev pub StaysOrIsUntold : Result Bool Failure → Result Bool Failure → Type 0
StaysOrIsUntold (Ok answer) told = told ≡ Ok answer
StaysOrIsUntold (Err failure) told = (told ≡ Err failure) ⊎ ((exit_status (Err failure) ≡ 0) × (told ≡ Err Help))

-- no run has failed: there was none
abbrev pub IsNoRun : Failure → Type 0
IsNoRun failure = MatchFailure (λ fault. ⊥) ⊤ failure
