use Rattle.std.proofs.{Common.{inl, inr, sym, subst, ◌∙◌}, lemmas.Bool.{false≢true}}
use Rattle.nntp_article.specs.Session.Limit.{profile_of}
use Rattle.nntp_pair.specs.Inner.Feeding.{IsEnding, left_of}
use Rattle.nntp_printing.specs.BadAnswer.{IsFirstLine}
use Rattle.nntp_verdict.proofs.CheckerLemmas.{passed-now}
use Rattle.nntp_verdict.proofs.checker.end_session.Goals as goal

pub returns-in_ok-ended-in-End : goal.returns-in_ok-ended-in-End
returns-in_ok-ended-in-End g c = λ limit marks before session kept.
    let facts = c.args.judge.now.facts in
    let answers = c.args.judge.now.answers.items in
    let feed = c.args.feed.now in
    c.in_ok-ended-in-End.ensures limit marks before session (left_of feed) c.in-End.unanswered (passed-now (profile_of limit marks) before session facts answers feed kept) c.index.ensures
    c.in-End.ensures.1

pub returns-in_ok-verdict-in-Bad : goal.returns-in_ok-verdict-in-Bad
returns-in_ok-verdict-in-Bad g c = λ limit marks before session kept.
    let facts = c.args.judge.now.facts in
    let answers = c.args.judge.now.answers.items in
    let feed = c.args.feed.now in
    c.in_ok-verdict-in-Bad.ensures.verdict limit marks before session (left_of feed) (passed-now (profile_of limit marks) before session facts answers feed kept)
    (record {
      ends = c.in-Bad.ensures.2;
      index_is = c.in-Bad.ensures.1;
      line_is = c.ahead.ensures.line;
      first = λ first is. subst (λ o. IsFirstLine o first) c.ahead.ensures.rest is;
    })

pub unreachable-requires : goal.unreachable-requires
unreachable-requires g c =
    let feed = c.args.feed.now in
    elim c.in-More.is [
      | inl more ↦ c.requires.all (subst (IsEnding feed) more c.finish.ensures).1
      | inr failed ↦ false≢true (sym c.requires.whole ∙ subst (IsEnding feed) failed c.finish.ensures)
    ]
