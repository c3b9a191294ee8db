use Rattle.nntp_wire.proofs.PartLemmas.{parts-found, parts-alone}
use Rattle.nntp_wire.proofs.parts.split_part.Goals as goal

pub returns-in-Some : goal.returns-in-Some
returns-in-Some c = rw (c.split_at-in-Some.ensures.back, c.split_at.ensures.back, c.split_at.ensures.front) (parts-found c.args.separator c.args.bytes.now c.in-Some.end c.in-Some.ensures)

pub returns-in-None : goal.returns-in-None
returns-in-None c = parts-alone c.args.separator c.args.bytes.now c.in-None.ensures
