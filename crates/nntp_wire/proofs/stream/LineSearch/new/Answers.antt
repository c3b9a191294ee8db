use Rattle.nntp_wire.specs.Octets.{crlf}
use Rattle.nntp_wire.proofs.stream.LineSearch.new.Goals as goal

pub returns : goal.returns
returns c = λ stream. c.new.ensures crlf stream
