use Rattle.std.{proofs.Common.{List}, specs.Option.{option_copied}}
use Rattle.nntp_wire.specs.declared.{limit.Limit.{Limit}, marks.Marks.{Marks}}
use Rattle.nntp_article.specs.Session.Limit.{profile_of}
use Rattle.nntp_pair.specs.Pairing.{Unpaired}
use Rattle.nntp_several.specs.Sessions.{Recorded}
use Rattle.nntp_verdict.{specs.{Inner.Judging.{IsVerdictFrom, Passed, StopsHere}, Verdict.{JudgementOfAll}}, proofs.JudgeLemmas.{stopped, told}}
use Rattle.nntp_verdict.proofs.judge.Judge.stopped.Goals as goal

pub returns-clause-verdict : goal.returns-clause-verdict
returns-clause-verdict g c =
    let facts = c.args.self.now.facts in
    let answers = c.args.self.now.answers.items in
    told c.bad.result
    (λ (j : JudgementOfAll). (limit : Limit) (marks : Marks) (before : List Recorded) (session : Recorded) (left : Unpaired) → Passed (profile_of limit marks) before session facts answers left
    → StopsHere left c.args.index c.args.class (option_copied c.args.ahead.line) c.args.ahead.rest.now → IsVerdictFrom limit marks before session j)
    _ (λ limit marks before session left p stop. stopped limit marks before session answers facts left c.args.index
    c.args.class (option_copied c.args.ahead.line) c.args.ahead.rest.now c.first_line-reply.result.now
    p stop c.index.result c.index.ensures c.from.result c.from.ensures c.first_line-reply.ensures)
    c.bad.ensures
