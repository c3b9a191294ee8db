use Rattle.std.proofs.Common.{[], ap, refl}
use Rattle.nntp_pair.specs.Inner.Feeding.{Fed}
use Rattle.nntp_article.specs.Session.Limit.{profile_of}
use Rattle.nntp_verdict.{specs.Inner.Checking.{unrecorded}, proofs.CheckerLemmas.{held, session-begins}}
use Rattle.nntp_verdict.proofs.checker.Ongoing.taking.Goals as goal

pub returns : goal.returns
returns g c =
    let profile = profile_of c.args.limit c.args.marks in
    let facts = c.new.result.facts in
    let answers = c.new.result.answers.items in
    let feed = c.taking.result in
    let overviews = c.args.overviews in
    let passed = session-begins profile [] overviews facts answers feed c.taking.ensures.value c.taking.ensures.fed c.new.ensures in
    record { stands = (passed, refl); sound = held profile [] (unrecorded overviews) facts answers feed passed (ap (λ (f : Fed). f.has_failed) c.taking.ensures.value) }
