-- What the values of src/step.rt mean.
use Rattle.std.specs.Prelude.{◌≡◌, ⊤}
use Rattle.nntp_pair.specs.{Pairing.{Unpaired, IsNext, Ends, end, bad}, declared.step.Step.{Step, TheVariants.{Exchange, Bad, End}}}

-- the step is the next one from here, and then that is left: at an end what was left
abbrev pub IsStep : Unpaired → Step → Unpaired → Type 0
IsStep before (Exchange pair) after = IsNext before pair after
IsStep before (Bad index class) after = (index ≡ before.index) × Ends before (bad class) × (after ≡ before)
IsStep before (End unanswered) after = Ends before (end unanswered) × (after ≡ before)

-- where the step is an exchange
abbrev pub OnExchange : Step → Type 0 → Type 0
OnExchange (Exchange pair) P = P
OnExchange step P = ⊤
