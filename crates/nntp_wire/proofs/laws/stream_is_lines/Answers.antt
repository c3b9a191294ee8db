use Rattle.nntp_wire.proofs.StreamLemmas.{stream-split}
use Rattle.nntp_wire.proofs.laws.stream_is_lines.Goals as goal

pub returns : goal.returns
returns c = stream-split
