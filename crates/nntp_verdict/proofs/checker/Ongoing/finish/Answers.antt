use Rattle.std.proofs.Common.{[], ◌∷◌, ◌++◌}
use Rattle.nntp_facts.specs.Inner.Noted.{profile_kept}
use Rattle.nntp_witness.proofs.Aims.{noted_as_kept}
use Rattle.nntp_verdict.proofs.JudgeLemmas.{passes, refuses, told_of}
use Rattle.nntp_verdict.proofs.checker.Ongoing.finish.Goals as goal

pub end_session-requires : goal.end_session-requires
end_session-requires g c = record { all = c.requires.passed.all; whole = c.requires.is_whole }

pub finish-requires : goal.finish-requires
finish-requires g c =
    let facts = c.args.self.judge.facts in
    let was = c.requires in
    let e = passes _ _ _ c.in-None.is (c.in_ok-verdict.ensures facts.limit facts.marks was.before was.session was.passed.keeps) in
    (e.earlier, [], noted_as_kept (profile_kept facts) c.end_session.new.judge.facts e.earlier [] e.stands)

pub returns-in-Some : goal.returns-in-Some
returns-in-Some g c = λ limit marks before session passed.
    refuses _ c.in-Some.verdict _ _ c.in-Some.is (c.in_ok-verdict.ensures limit marks before session passed.keeps) []

pub returns-in-None : goal.returns-in-None
returns-in-None g c = told_of c.finish.result _ _ c.finish.ensures (λ v h limit marks before session passed.
    h limit marks (before ++ session ∷ []) (passes _ _ _ c.in-None.is (c.in_ok-verdict.ensures limit marks before session passed.keeps)))
