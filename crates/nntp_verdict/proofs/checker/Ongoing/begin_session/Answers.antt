use Rattle.nntp_verdict.proofs.CheckerLemmas.{begun-settled, begun-sound}
use Rattle.nntp_verdict.proofs.checker.Ongoing.begin_session.Goals as goal

pub end_session-requires : goal.end_session-requires
end_session-requires g c = record { all = c.requires.passed.all; whole = c.requires.is_whole }

pub returns : goal.returns
returns g c =
    let judge = c.args.self.now.judge in
    let fed = c.args.self.now.feed in
    let new = c.end_session.new.judge in
    let told = c.in_ok-told.told in
    let is = c.taking.ensures in
    let overviews = c.args.self.now.overviews in
    record {
      begun = begun-settled overviews judge.facts judge.answers.items fed new.facts new.answers.items c.taking.result told is.value is.fed c.in_ok-told.ensures;
      sound = begun-sound overviews judge.facts judge.answers.items fed new.facts new.answers.items c.taking.result told c.requires is.value is.fed c.in_ok-told.ensures;
    }
