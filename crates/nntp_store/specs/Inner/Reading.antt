-- What is said with the words of `Reading.antt`, and needn't be believed.
use Rattle.std.specs.Prelude.{◌≡◌, Result, Ok, Err}
use Rattle.nntp_store.specs.declared.text.read_fault.{ReadFault.{ReadFault}, ReadError.{ReadError}}
use Rattle.nntp_store.specs.declared.text.read_fault.ReadError.TheVariants as errors

-- What a function returned, seen by view, is what reading gives, unless memory ran out.
abbrev pub Fails : {Y : Type 0} → ReadError → Result Y ReadFault → Type 0
Fails errors.Memory read = Unit {0}
Fails (errors.Fault f) read = read ≡ Err f

abbrev pub Gives : {X Y : Type 0} → (X → Y) → Result X ReadError → Result Y ReadFault → Type 0
Gives view (Ok x) read = read ≡ Ok (view x)
Gives view (Err e) read = Fails e read
