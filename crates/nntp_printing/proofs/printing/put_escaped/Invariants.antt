use Rattle.std.proofs.Common.{◌≡◌, ◌++◌, drop}
use Rattle.nntp_printing.specs.Printing.{escaped}
use Rattle.nntp_printing.proofs.printing.put_escaped.Given as goal

abbrev pub invariant-loop-octet : goal.invariant-loop-octet
invariant-loop-octet g l = l.text.items ++ escaped (drop l.octet-index l.octets) ≡ l.fn.text.items ++ escaped l.octets
