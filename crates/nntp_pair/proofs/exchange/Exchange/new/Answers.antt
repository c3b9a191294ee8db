use Rattle.std.proofs.Common.{ℕ, List, ◌<◌, ◌^◌, length, refl, sym, subst, arith}
use Rattle.nntp_wire.specs.{Answer.{Spells}, Frame.{frame_octets}, Inner.AnswerView.{response}}
use Rattle.nntp_pair.{specs.{Inner.Pairing.{IsSpelled}, Pairing.{asked_at}}, proofs.PairLemmas.{spelled}}
use Rattle.nntp_pair.proofs.exchange.Exchange.new.Goals as goal

pub invariant_of-result : goal.invariant_of-result
invariant_of-result c =
    let frame = c.args.frame.now in
    let place = c.args.place in
    let small : length c.args.server.now < 2 ^ 64 = omega arith in
    let spells = subst (λ a. Spells a (response c.args.answer) (frame_octets frame.initial frame.block)) c.requires.prompt c.requires.answer in
    let both = spelled place c.args.server.now frame.initial frame.block _ (response c.args.answer) (asked_at place) refl c.requires.frame spells c.type_inv.server small in
    (c.requires.index, c.requires.prompt, subst (λ (line : List ℕ). IsSpelled place line (response c.args.answer)) (sym c.initial.ensures.value) both.0, both.1)
