use Rattle.std.proofs.Common.{refl, sym, [], ap}
use Rattle.nntp_article.specs.Session.Limit.{profile_of}
use Rattle.nntp_witness.proofs.Aims.{noted_as_kept}
use Rattle.nntp_verdict.{specs.Inner.Judging.{class_noted}, proofs.JudgeLemmas.{is-due, one-more}}
use Rattle.nntp_wire.specs.Session.{taken}
use Rattle.nntp_fixtures.proofs.notes.note_taking.Goals as goal

pub loop-exchange-init : goal.loop-exchange-init
loop-exchange-init g c = record {
  passed = record { earlier = []; ended = tt; pairs = []; next = sym c.taking-pairs.ensures; stands = c.new-facts.ensures.stands };
  answers_are = refl;
}

pub returns-in-Bad : goal.returns-in-Bad
returns-in-Bad g c =
    let passed = c.loop-exchange.invariant.passed in
    (passed.earlier, passed.pairs, noted_as_kept (profile_of c.args.limit c.args.marks) c.loop-exchange.facts passed.earlier passed.pairs passed.stands)

pub returns-in-End : goal.returns-in-End
returns-in-End g c =
    let passed = c.loop-exchange.invariant.passed in
    (passed.earlier, passed.pairs, noted_as_kept (profile_of c.args.limit c.args.marks) c.loop-exchange.facts passed.earlier passed.pairs passed.stands)

pub note-requires : goal.note-requires
note-requires g c =
    λ whole. is-due (profile_of c.args.limit c.args.marks) [] (record { client = taken c.args.overviews c.args.client.now; server = c.args.server.now }) c.loop-exchange.facts []
    c.loop-exchange.pairs c.next.new.self c.in-Exchange.exchange c.loop-exchange.invariant
    c.in-Exchange.ensures.step

pub loop-exchange-smaller : goal.loop-exchange-smaller
loop-exchange-smaller g c = c.in-Exchange.ensures.progress

pub loop-exchange-preserved : goal.loop-exchange-preserved
loop-exchange-preserved g c =
    (one-more (profile_of c.args.limit c.args.marks) [] (record { client = taken c.args.overviews c.args.client.now; server = c.args.server.now }) c.loop-exchange.facts c.note.new.self []
    c.loop-exchange.pairs c.next.new.self c.in-Exchange.exchange c.in-Ok-Consistent.field-0
    c.loop-exchange.invariant c.in-Exchange.ensures.step
    (c.in-Ok-Consistent.ensures.noted (profile_of c.args.limit c.args.marks))
    (ap class_noted c.in-Ok-Consistent.field-0-is)).0

pub after_want-requires : goal.after_want-requires
after_want-requires g c =
    let passed = c.loop-exchange.invariant.passed in
    (c.in-Err-Memory.ensures.noted (profile_of c.args.limit c.args.marks) passed.earlier passed.pairs passed.stands).1
