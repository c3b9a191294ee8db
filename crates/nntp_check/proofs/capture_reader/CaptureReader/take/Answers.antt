use Rattle.std.proofs.Common.{sym, subst}
use Rattle.nntp_check.specs.{Inner.CaptureReading.{Reads}, declared.capture_reader.Passage.{Passage}}
use Rattle.nntp_check.proofs.capture_reader.CaptureReader.take.Goals as goal

pub returns-in-Octets-clause-read : goal.returns-in-Octets-clause-read
returns-in-Octets-clause-read c =
    subst (λ (passage : Passage). Reads c.args.self.now c.take_octets.new.self passage c.take_octets.result.octets.now) (sym c.take_octets.ensures.passage) c.take_octets.ensures.read
