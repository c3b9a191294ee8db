use Rattle.std.proofs.Common.{◌∙◌, ap, drop}
use Rattle.nntp_wire.specs.Inner.View.{asked}
use Rattle.nntp_pair.{specs.Pairing.{Unpaired}, proofs.{PassedLemmas.{passed-found}, PairLemmas.{frame-within}}}
use Rattle.nntp_pair.proofs.pairs.Pairs.pass_over.Goals as goal

pub returns-clause-passed : goal.returns-clause-passed
returns-clause-passed c =
    let i = c.self.inside in
    let a : Unpaired = record { index = i.index; places = i.places; server = i.server.now; is_closed = i.is_closed } in
    let frame = c.in-Some-frame.frame in
    passed-found a c.args.self.now c.in-Some.place (asked c.prompt-prompt.result) frame.initial frame.block frame.len c.in-Some.places c.split_at.result.1.now
    c.self.view_is c.requires c.in-Some.ensures c.prompt-prompt.ensures c.in-Some-frame.ensures.found (c.split_at.ensures.back ∙ ap (λ n. drop n i.server.now) c.len.ensures.value)

pub split_at-requires : goal.split_at-requires
split_at-requires c = frame-within c.in-Some-frame.frame c.in-Some-frame.ensures.found c.len.ensures.value c.len.ensures.is_frame
