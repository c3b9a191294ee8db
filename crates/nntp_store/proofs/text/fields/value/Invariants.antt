use Rattle.std.proofs.Common.{◌≡◌, take}
use Rattle.nntp_store.specs.Fields.{value_of}
use Rattle.nntp_store.proofs.text.fields.value.Given as goal

abbrev pub invariant-loop-digit : goal.invariant-loop-digit
invariant-loop-digit l = l.value ≡ value_of (take l.digit-index l.digits)
