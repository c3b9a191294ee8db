use Rattle.nntp_facts.specs.Inner.Noted.{profile_kept}
use Rattle.nntp_pair.specs.{Inner.Sides.{given}, declared.side.Side.TheVariants.{Client, Server}}
use Rattle.nntp_several.specs.Told.{with_more}
use Rattle.nntp_verdict.proofs.{JudgeLemmas.{told_of}, CheckerLemmas.{keeps-taken, taken-whole, taken-settled, taken-sound}}
use Rattle.nntp_verdict.proofs.checker.Ongoing.take.Goals as goal

pub go_on-requires : goal.go_on-requires
go_on-requires g c =
    let judge = c.args.self.now.judge in
    let fed = c.args.self.now.feed in
    let was = c.requires in
    let side = c.args.side in
    let octets = c.args.piece.now in
    record {
      kept = (
        judge.facts.limit,
        judge.facts.marks,
        was.before,
        with_more was.session (given Client side octets) (given Server side octets),
        keeps-taken (profile_kept judge.facts) was.before was.session judge.facts judge.answers.items fed c.feed.new.self side octets was.passed c.in-Ok.ensures,
      );
      whole = taken-whole side octets fed c.feed.new.self c.in-Ok.ensures;
    }

pub returns : goal.returns
returns g c =
    let judge = c.args.self.now.judge in
    let fed = c.args.self.now.feed in
    let then = c.feed.new.self in
    let new = c.go_on.new.judge in
    let last = c.go_on.new.feed in
    let side = c.args.side in
    let octets = c.args.piece.now in
    let taken = c.in-Ok.ensures in
    record {
      taken = told_of c.go_on.result _ _ c.go_on.ensures
          (λ told judged. taken-settled c.args.self.now.overviews judge.facts judge.answers.items fed new.facts new.answers.items last side octets then told taken judged);
      sound = told_of c.go_on.result _ _ c.go_on.ensures
          (λ told judged. taken-sound c.args.self.now.overviews judge.facts judge.answers.items fed new.facts new.answers.items last side octets then told c.requires taken judged);
    }
