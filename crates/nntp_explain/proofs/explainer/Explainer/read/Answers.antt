use Rattle.std.proofs.{Common.{arith, sym, subst}, lemmas.Grind.{common_steps}}
use Rattle.nntp_pair.specs.Pairing.{Ends, bad}
use Rattle.nntp_explain.{specs.Inner.ExplainingView.{HasTold}, proofs.{ToldAnswers.{others_accepted, told_unspelled}, ReadSessions.{read_at_end}}}
use Rattle.nntp_explain.proofs.ReadSessions.{read_at_octets}
use Rattle.nntp_explain.proofs.explainer.Explainer.read.Goals as goal

pub note-requires : goal.note-requires
note-requires g c =
    let b = c.requires.1 in
    let s = c.args.session.now in
    let told = c.loop-exchange.invariant c.requires.0 b c.requires.2 in
    let here = subst (λ profile. HasTold profile b s.client s.server c.loop-exchange.self c.loop-exchange.pairs) (sym told.noted.profile_is) told in
    record { told = (b, s.client, s.server, c.loop-exchange.pairs, c.next.new.self, here, c.in-Exchange.ensures.step) }

pub loop-exchange-preserved-in-Continue-1 : goal.loop-exchange-preserved-in-Continue-1
loop-exchange-preserved-in-Continue-1 g c = λ profile b h.
    c.in_ok-note-in-Exchange.ensures profile b c.args.session.now.client c.args.session.now.server c.loop-exchange.pairs c.next.new.self (c.loop-exchange.invariant profile b h)
    c.in-Exchange.ensures.step

pub refuse_malformed-requires : goal.refuse_malformed-requires
refuse_malformed-requires g c = (c.loop-exchange.invariant c.requires.0 c.requires.1 c.requires.2).few

pub loop-exchange-preserved : goal.loop-exchange-preserved
loop-exchange-preserved g c = λ profile b h.
    let s = c.args.session.now in
    let told = subst (HasTold profile b s.client s.server c.loop-exchange.self) (sym c.in-Bad.ensures.step.2) (c.loop-exchange.invariant profile b h) in
    let refused = c.in_ok-refuse_malformed-in-Malformed.ensures in
    told_unspelled told refused.kept refused.text c.pass_over-malformed.ensures.prompt c.index-index.ensures.value c.pass_over-malformed.ensures.passed

pub refuse_octets-requires : goal.refuse_octets-requires
refuse_octets-requires g c =
    let told = c.loop-exchange.invariant c.requires.0 c.requires.1 c.requires.2 in
    record { few = told.few; others = others_accepted told; passed = c.in_default.not-Malformed }

pub returns-in_default : goal.returns-in_default
returns-in_default g c = λ profile b h.
    let s = c.args.session.now in
    let step = c.in-Bad.ensures.step in
    let refused = c.in_ok-refuse_octets-in_default.ensures in
    let told = subst (λ left. HasTold profile b s.client s.server c.loop-exchange.self left × Ends left (bad c.in-Bad.class)) (sym step.2) (c.loop-exchange.invariant profile b h, step.1) in
    read_at_octets told.0 told.1 c.in_default.not-Malformed c.index-index.ensures.value c.ahead.ensures.line c.ahead.ensures.rest c.count_lines_behind-unanswered.ensures refused.kept refused.text

pub returns-in-End : goal.returns-in-End
returns-in-End g c = λ profile b h. read_at_end (c.loop-exchange.invariant profile b h) c.in-End.ensures.step.0

pub loop-exchange-init : goal.loop-exchange-init
loop-exchange-init g c = grind (arith, common_steps)

pub loop-exchange-smaller : goal.loop-exchange-smaller
loop-exchange-smaller g c = grind (arith, common_steps)

pub pass_over-malformed-requires : goal.pass_over-malformed-requires
pass_over-malformed-requires g c = grind (arith, common_steps)
