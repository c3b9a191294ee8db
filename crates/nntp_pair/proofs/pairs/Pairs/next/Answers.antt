use Rattle.std.proofs.{Common.{◌≢◌, [], refl, subst, drop, arith}, lemmas.Grind.{common_steps}}
use Rattle.nntp_wire.specs.Inner.View.{asked}
use Rattle.nntp_pair.specs.{Pairing.{Unpaired, Awaits}, Inner.Step.{IsStep}, declared.{class.PairClass.TheVariants.{Malformed}, step.Step.TheVariants.{Bad}}}
use Rattle.nntp_pair.proofs.PairLemmas.{malformed, frame-within}
use Rattle.nntp_pair.proofs.pairs.Pairs.next.Goals as goal

pub returns-in_default-parse-clause-step : goal.returns-in_default-parse-clause-step
returns-in_default-parse-clause-step c =
    let server = c.self.inside.server.now in
    let frame = c.in-Some-frame.frame in
    let place = c.in-Some.place in
    let why = malformed place server frame.initial frame.block (drop frame.len server) (asked c.prompt-prompt.result) c.prompt-prompt.ensures c.in-Some-frame.ensures.found
    c.in_default-parse.ensures in
    let some : server ≢ [] = grind arith in
    let awaits : Awaits (record { index = c.self.inside.index; places = c.self.inside.places; server = server; is_closed = c.self.inside.is_closed }) place =
    record { is_open = c.if-self.false; places = c.in-Some.places; first = c.in-Some.ensures } in
    rw c.bad-in_default-parse.ensures (
    subst (λ (left : Unpaired). IsStep left (Bad left.index Malformed) left) c.self.view_is
    (refl, (some, (place, awaits, why)), refl)
    )

pub returns-clause-progress : goal.returns-clause-progress
returns-clause-progress c = grind (arith, common_steps)

pub new-exchange-requires-clause-frame : goal.new-exchange-requires-clause-frame
new-exchange-requires-clause-frame c = grind (arith, common_steps)

pub split_at-requires : goal.split_at-requires
split_at-requires c = frame-within c.in-Some-frame.frame c.in-Some-frame.ensures.found c.len.ensures.value c.len.ensures.is_frame

pub invariant_of-self : goal.invariant_of-self
invariant_of-self c = grind (arith, common_steps)

pub returns-clause-step : goal.returns-clause-step
returns-clause-step c = grind (arith, common_steps)
