use Rattle.std.proofs.Common.{[]}
use Rattle.nntp_article.specs.Session.Limit.{profile_of}
use Rattle.nntp_verdict.proofs.JudgeLemmas.{at-end}
use Rattle.nntp_verdict.proofs.judge.Judge.finish.Goals as goal

pub returns : goal.returns
returns g c = λ limit marks sessions e.
    at-end limit marks sessions c.args.self.facts c.args.self.answers.items c.in_ok-spool.spool e
    (c.in_ok-spool.ensures.given (profile_of limit marks) e.earlier [] e.stands) c.in_ok-spool.ensures.is_written
