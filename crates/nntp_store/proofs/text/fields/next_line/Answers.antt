use Rattle.std.proofs.Common.{arith, None}
use Rattle.nntp_store.proofs.SplitLines.{line_found, line_none, behind, first_place}
use Rattle.nntp_store.proofs.text.fields.next_line.Goals as goal

pub returns-in-None : goal.returns-in-None
returns-in-None c = let n = line_none c.args.place.line c.args.place.rest.now (first_place 10 c.args.place.rest.now None c.in-None.ensures) in rw c.fault.ensures n

pub returns-in-Some : goal.returns-in-Some
returns-in-Some c = grind (arith, behind, line_found, first_place)
