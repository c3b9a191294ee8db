use Rattle.std.proofs.Common.{ℕ, List, ◌∷◌, ◌++◌, ◌∙◌, [], ap, arith, get_or, length-append, sym, subst}
use Rattle.nntp_check.{specs.{Capture.{Captured, Held}, Inner.CaptureReading.{HasCome, HasRead, captured, reached}}, proofs.ReadingLemmas.{goes-on, cant-go-on}}
use Rattle.nntp_check.proofs.ReadingLemmas.{first-octet, read-on}
use Rattle.nntp_check.proofs.capture_reader.CaptureReader.take_octet.Goals as goal

pub returns-in_default-clause-bad : goal.returns-in_default-clause-bad
returns-in_default-clause-bad c came held h =
    let first = first-octet c.args.octets.now c.split_at.result.0.now c.split_at.result.1.now c.requires.some c.split_at.ensures.front c.split_at.ensures.back in
    cant-go-on _ _ c.args.self.now.place came _ c.args.octets.now c.split_at.result.1.now c.requires.line h.come c.in_default.ensures first.1

pub go_to-requires : goal.go_to-requires
go_to-requires c =
    let room = c.requires.room in
    let some = c.requires.some in
    let octet = get_or c.split_at.result.0.now 0 0 in
    let next = c.in-Some.next in
    record {
      room = (
        _,
        _,
        subst (λ (n : ℕ). HasCome n next (room.0 ++ octet ∷ []) (reached next (captured c.args.self.now room.1))) (sym c.passage_to-passage.ensures.piece)
            (goes-on _ _ c.args.self.now.place next _ _ c.requires.line room.2.come c.in-Some.ensures),
        omega (arith, room.3, length-append room.0 (octet ∷ [])),
      );
    }

pub returns-clause-read : goal.returns-clause-read
returns-clause-read c came held h =
    let first = first-octet c.args.octets.now c.split_at.result.0.now c.split_at.result.1.now c.requires.some c.split_at.ensures.front c.split_at.ensures.back in
    let octet = get_or c.split_at.result.0.now 0 0 in
    let next = c.in-Some.next in
    let old = c.args.self.now in
    let then = goes-on _ _ old.place next came _ c.requires.line h.come c.in-Some.ensures in
    let noted = c.passage_to-passage.ensures.noted held c.split_at.result.0.now h.session in
    let read = read-on c.go_to.new.self (came ++ octet ∷ []) (reached next (captured old held))
    (c.go_to.ensures.come _ _ (subst (λ (n : ℕ). HasCome n next (came ++ octet ∷ []) (reached next (captured old held))) (sym c.passage_to-passage.ensures.piece) then))
    c.go_to.ensures.is_open (c.go_to.ensures.sessions.1 ∙ ap (λ (x : Captured). x.is_several) noted.0) (c.go_to.ensures.sessions.0 ∙ noted.1) in
    subst (λ (t : List ℕ × Held). HasRead c.go_to.new.self t.0 t.1) (λ i. (came ++ sym first.0 i, sym (ap (λ (x : Captured). x.held) noted.0) i)) read
