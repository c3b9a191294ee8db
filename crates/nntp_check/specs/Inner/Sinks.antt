-- What takes what a capture holds, as it comes.
use Rattle.std.specs.Prelude.{◌≡◌, ℕ, ◌+◌, ◌<◌, ◌^◌, List, ◌++◌, length, ⊤}
use Rattle.nntp_check.specs.{Capture.{Held}, Inner.CaptureReading.{HasRead, HasBadFront, passed}, declared.capture_reader.Passage.{Passage}}
use Rattle.nntp_check.specs.declared.{capture_reader.CaptureReader.{CaptureReader}, run_fault.RunFault.{RunFault}}
use Rattle.nntp_check.specs.declared.run_fault.RunFault.TheVariants as faults

-- with these octets fewer than 2^64 have come of both streams of the session that goes on
abbrev pub HasRoom : (Held → Type 0) → List ℕ → Type 0
HasRoom Stands octets = (held : Held) × Stands held × (length held.last.session.client.octets + length held.last.session.server + length octets < 2 ^ 64)

-- what stood for what pieces held stands for it with octets that are passed on
abbrev pub Takes : (Held → Type 0) → (Held → Type 0) → Passage → List ℕ → Type 0
Takes Stood Stands passage octets = (held : Held) → Stood held → Stands (passed passage octets held)

-- these octets came to a reader, and a sink stands for what they hold
abbrev pub BothStand : CaptureReader → (Held → Type 0) → List ℕ → Type 0
BothStand reader Stands came = (held : Held) × HasRead reader came held × Stands held

-- some octets came for which both stand, with these fewer than 2^64
abbrev pub FitBehind : CaptureReader → (Held → Type 0) → List ℕ → Type 0
FitBehind reader Stands octets = (came : List ℕ) × BothStand reader Stands came × (length came + length octets < 2 ^ 64)

-- the octets but for the rest were passed on: what stood for those that came before stands for them with these behind
pub record PassesOn (before after : CaptureReader) (Stood Stands : Held → Type 0) (octets rest : List ℕ) : Type 0 where
  pub front : List ℕ
  pub cut : octets ≡ front ++ rest
  pub stands : (came : List ℕ) → BothStand before Stood came → BothStand after Stands (came ++ front)

-- why no more is taken within these octets, behind those that came
abbrev pub StopsWithin : List ℕ → List ℕ → RunFault → Type 0
StopsWithin came octets (faults.Capture piece) = HasBadFront came octets piece
StopsWithin came octets faults.Memory = ⊤
StopsWithin came octets fault = ⊥

-- the same behind all octets for which both stand
abbrev pub StopsBehind : CaptureReader → (Held → Type 0) → List ℕ → RunFault → Type 0
StopsBehind reader Stands octets fault = (came : List ℕ) → BothStand reader Stands came → StopsWithin came octets fault
