use Rattle.std.proofs.Common.{◌∙◌}
use Rattle.nntp_pair.specs.Inner.Feeding.{left_of}
use Rattle.nntp_verdict.proofs.{JudgeLemmas.{as-many-ended}, CheckerLemmas.{passed-now}, BadLemmas.{told, untold}}
use Rattle.nntp_verdict.proofs.checker.Ongoing.bad.Goals as goal

pub returns-in-Bad : goal.returns-in-Bad
returns-in-Bad g c = λ profile before session passed.
    let judge = c.args.self.now.judge in
    let fed = c.args.self.now.feed in
    let here = passed.keeps in
    let p = passed-now profile before session judge.facts judge.answers.items fed here in
    told profile before session judge.facts (left_of fed) p.passed c.in-Bad.class c.in-Bad.ensures.2
    c.index.result (c.index.ensures ∙ as-many-ended before here.earlier judge.answers.items here.ended here.answers_are)
    c.in-Bad.index c.in-Bad.ensures.1 c.from.result c.from.ensures

pub returns-in-Nothing : goal.returns-in-Nothing
returns-in-Nothing g c = λ profile before session passed.
    let judge = c.args.self.now.judge in
    let fed = c.args.self.now.feed in
    let p = passed-now profile before session judge.facts judge.answers.items fed passed.keeps in
    untold profile before session judge.facts (left_of fed) p.passed c.in-Nothing.ensures.1 c.in-Nothing.ensures.2
