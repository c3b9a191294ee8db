use Rattle.std.proofs.Common.{◌≡◌, ◌+◌, ◌-◌, ◌<◌, ◌∙◌, ◌++◌, ℕ, ap, sym, subst, arith, length, length-append}
use Rattle.nntp_check.specs.{Capture.{continued}, Inner.CaptureReading.{HasCome, captured}, declared.capture_reader.CaptureReader.{CaptureReader}}
use Rattle.nntp_check.{specs.declared.capture_reader.Place.{Place, TheVariants.{Octets}}, proofs.ReadingLemmas.{octets-come, read-on}}
use Rattle.nntp_check.proofs.capture_reader.CaptureReader.take_octets.Goals as goal

pub go_to-requires : goal.go_to-requires
go_to-requires c =
    let room = c.requires.room in
    let front = c.split_at.result.0.now in
    let many : (c.args.left - c.min-count.result) + length front ≡ c.args.left = omega (arith, c.min-count.ensures, c.split_at.ensures.front_len) in
    let come = subst (λ (place : Place). HasCome c.args.self.now.piece place room.0 (captured c.args.self.now room.1)) c.requires.place room.2.come in
    let same : c.note.new.self.piece ≡ c.args.self.now.piece = ap (λ (r : CaptureReader). r.piece) c.note.ensures.rest in
    record {
      room = (
        _,
        _,
        subst (λ (n : ℕ). HasCome n (Octets c.args.source (c.args.left - c.min-count.result)) (room.0 ++ front) (continued c.args.source front (captured c.args.self.now room.1))) (sym same)
            (octets-come _ c.args.left c.args.source _ _ front (c.args.left - c.min-count.result) come many),
        omega (arith, room.3, length-append room.0 front, c.min-count.ensures, c.split_at.ensures.front_len),
      );
    }

pub returns-clause-read : goal.returns-clause-read
returns-clause-read c came held h =
    let front = c.split_at.result.0.now in
    let left = c.args.left - c.min-count.result in
    let many : left + length front ≡ c.args.left = omega (arith, c.min-count.ensures, c.split_at.ensures.front_len) in
    let some : 0 < length front = omega (arith, c.min-count.ensures, c.split_at.ensures.front_len, c.requires.open, c.requires.some) in
    let old = c.args.self.now in
    let come = subst (λ (place : Place). HasCome old.piece place came (captured old held)) c.requires.place h.come in
    let then = octets-come _ c.args.left c.args.source came _ front left come many in
    let piece = ap (λ (r : CaptureReader). r.piece) c.note.ensures.rest in
    let several = ap (λ (r : CaptureReader). r.is_several) c.note.ensures.rest in
    read-on c.go_to.new.self (came ++ front) (continued c.args.source front (captured old held))
    (c.go_to.ensures.come _ _ (subst (λ (n : ℕ). HasCome n (Octets c.args.source left) (came ++ front) (continued c.args.source front (captured old held))) (sym piece) then))
    c.go_to.ensures.is_open (c.go_to.ensures.sessions.1 ∙ several) (c.go_to.ensures.sessions.0 ∙ c.note.ensures.noted held front some h.session)
