use Rattle.std.proofs.Common.{None, Some}
use Rattle.nntp_store.proofs.SplitLines.{segments_found, segments_none, behind, first_place}
use Rattle.nntp_store.proofs.text.fields.cut.Goals as goal

pub returns-in-None : goal.returns-in-None
returns-in-None c = segments_none 32 c.args.line.now (first_place 32 c.args.line.now None c.in-None.ensures)

pub returns-in-Some : goal.returns-in-Some
returns-in-Some c =
    let rest = behind c.in-Some.at c.args.line.now _ _ c.split_at.ensures.back c.split_at-in-Some.ensures.back in
    rw (c.split_at.ensures.front, rest) (segments_found 32 c.args.line.now c.in-Some.at (first_place 32 c.args.line.now (Some c.in-Some.at) c.in-Some.ensures))
