use Rattle.std.proofs.Common.{sym, subst}
use Rattle.nntp_verdict.{specs.{Judging.{IsVerdict}, Verdict.{sessions_verdict_shown}}, proofs.JudgeLemmas.{alone}}
use Rattle.nntp_wire.specs.{Session.{taken}, declared.overviews.Overviews.TheVariants.{Opaque}}
use Rattle.nntp_verdict.proofs.judge.check.Goals as goal

pub returns : goal.returns
returns g c =
    subst (IsVerdict c.args.limit c.args.marks (taken Opaque c.args.client.now) c.args.server.now) (sym c.of_last.ensures)
    (alone c.args.limit c.args.marks (taken Opaque c.args.client.now) c.args.server.now (sessions_verdict_shown c.in_ok-verdict.verdict) c.in_ok-verdict.ensures)
