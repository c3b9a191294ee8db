use Rattle.std.proofs.Common.{arith}
use Rattle.nntp_check.proofs.ReadingLemmas.{number-fits}
use Rattle.nntp_check.proofs.capture_reader.CaptureReader.go_to.Goals as goal

pub overflow_add-self : goal.overflow_add-self
overflow_add-self c =
    let room = c.requires.room in
    omega (arith, number-fits _ c.in-Octets-default-eq0.left c.in-Octets-default-eq0.source c.args.place _ _ c.in-Octets-default-eq0.is room.2)
