use Rattle.std.proofs.Common.{[]}
use Rattle.nntp_article.specs.Session.Limit.{profile_of}
use Rattle.nntp_witness.proofs.Aims.{noted_as_kept}
use Rattle.nntp_verdict.proofs.JudgeLemmas.{passes, refuses, told_of}
use Rattle.nntp_verdict.proofs.judge.check_sessions.Goals as goal

pub go_through_all-requires : goal.go_through_all-requires
go_through_all-requires g c = (c.args.limit, c.args.marks, c.new-judge.ensures)

pub returns-in-Some : goal.returns-in-Some
returns-in-Some g c = refuses _ c.in-Some.verdict _ _ c.in-Some.is (c.in_ok-verdict.ensures c.args.limit c.args.marks c.new-judge.ensures)

pub finish-requires : goal.finish-requires
finish-requires g c =
    let e = passes _ _ _ c.in-None.is (c.in_ok-verdict.ensures c.args.limit c.args.marks c.new-judge.ensures) in
    (e.earlier, [], noted_as_kept (profile_of c.args.limit c.args.marks) c.go_through_all.new.self.facts e.earlier [] e.stands)

pub returns-in-None : goal.returns-in-None
returns-in-None g c =
    let e = passes _ _ _ c.in-None.is (c.in_ok-verdict.ensures c.args.limit c.args.marks c.new-judge.ensures) in
    told_of c.finish.result _ _ c.finish.ensures (λ v h. h c.args.limit c.args.marks c.args.sessions.now e)
