use Rattle.std.{proofs.Common.{sym, subst}, specs.Option.{option_copied}}
use Rattle.nntp_article.specs.Session.Limit.{profile_of}
use Rattle.nntp_verdict.{specs.Inner.Judging.{IsVerdictFrom}, proofs.JudgeLemmas.{one-more, refused}}
use Rattle.nntp_verdict.proofs.judge.Judge.note.Goals as goal

pub returns-in_default-class_noted-clause-judged : goal.returns-in_default-class_noted-clause-judged
returns-in_default-class_noted-clause-judged g c = λ limit marks before session left behind p next.
    one-more (profile_of limit marks) before session c.args.self.now.facts c.note.new.self c.args.self.now.answers.items left behind c.args.exchange.now c.in-Ok.noted
    p next (c.in-Ok.ensures.noted (profile_of limit marks)) (sym c.in_default-class_noted.ensures)

pub returns-clause-judged : goal.returns-clause-judged
returns-clause-judged g c = λ limit marks before session left behind p next.
    subst (IsVerdictFrom limit marks before session) (sym c.in_ok-verdict.ensures)
    (refused limit marks before session c.args.self.now.answers.items c.args.self.now.facts c.note.new.self left behind c.args.exchange.now c.in-Ok.noted c.in-Some.class
    p next (c.in-Ok.ensures.noted (profile_of limit marks)) c.in-Some.ensures c.index.result c.index.ensures c.index-2.result c.index-2.ensures.value
    (option_copied c.line.result) c.line.ensures c.initial.result.now c.initial.ensures)
