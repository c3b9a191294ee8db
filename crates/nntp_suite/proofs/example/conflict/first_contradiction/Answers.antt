use Rattle.nntp_article.specs.Session.Limit.{profile_of}
use Rattle.nntp_suite.proofs.AcceptedAnswers.{next_due, one_more, one_bad}
use Rattle.nntp_wire.specs.{Session.{taken}, declared.overviews.Overviews.TheVariants.{Opaque}}
use Rattle.std.proofs.Common.{◌∙◌}
use Rattle.nntp_suite.proofs.example.conflict.first_contradiction.Goals as goal

pub note-requires : goal.note-requires
note-requires c =
    λ whole. next_due (profile_of c.args.limit c.args.marks) (taken Opaque c.args.client.now) c.args.server.now c.loop-exchange.facts c.loop-exchange.answers.items c.loop-exchange.standing
    c.loop-exchange.pairs c.next.new.self c.in-Exchange.exchange c.loop-exchange.invariant c.in-Exchange.ensures.step

pub loop-exchange-preserved : goal.loop-exchange-preserved
loop-exchange-preserved c =
    one_more (profile_of c.args.limit c.args.marks) (taken Opaque c.args.client.now) c.args.server.now c.loop-exchange.facts c.loop-exchange.answers.items c.loop-exchange.standing
    c.loop-exchange.pairs c.next.new.self c.in-Exchange.exchange c.loop-exchange.invariant c.in-Exchange.ensures.step
    c.note.new.self c.in-Ok-Consistent.field-0 c.push.new.self.items c.placed.result c.replace-before.result c.replace-before.new.dest
    c.in-Ok-Consistent.field-0-is (c.in-Ok-Consistent.ensures.noted (profile_of c.args.limit c.args.marks))
    c.in_ok-push-in-Ok-Consistent.ensures.items c.placed.ensures c.replace-before.ensures.value (c.replace-before.ensures.after ∙ c.after-after.ensures)

pub returns-in-Ok-Contradiction-clause-fit : goal.returns-in-Ok-Contradiction-clause-fit
returns-in-Ok-Contradiction-clause-fit c =
    (one_bad (profile_of c.args.limit c.args.marks) (taken Opaque c.args.client.now) c.args.server.now c.loop-exchange.facts c.loop-exchange.answers.items c.loop-exchange.standing
    c.loop-exchange.pairs c.next.new.self c.in-Exchange.exchange c.loop-exchange.invariant c.in-Exchange.ensures.step
    c.note.new.self c.in-Ok-Contradiction.field-0 c.placed-bad.result
    c.in-Ok-Contradiction.field-0-is (c.in-Ok-Contradiction.ensures.noted (profile_of c.args.limit c.args.marks)) c.placed-bad.ensures).0

pub returns-in-Ok-Contradiction-clause-conflict : goal.returns-in-Ok-Contradiction-clause-conflict
returns-in-Ok-Contradiction-clause-conflict c =
    (one_bad (profile_of c.args.limit c.args.marks) (taken Opaque c.args.client.now) c.args.server.now c.loop-exchange.facts c.loop-exchange.answers.items c.loop-exchange.standing
    c.loop-exchange.pairs c.next.new.self c.in-Exchange.exchange c.loop-exchange.invariant c.in-Exchange.ensures.step
    c.note.new.self c.in-Ok-Contradiction.field-0 c.placed-bad.result
    c.in-Ok-Contradiction.field-0-is (c.in-Ok-Contradiction.ensures.noted (profile_of c.args.limit c.args.marks)) c.placed-bad.ensures).1
