use Rattle.std.proofs.Common.{rules}
use Rattle.nntp_article.proofs.ArticleLemmas.FieldWordLemmas.{last_line, next_line}
use Rattle.nntp_article.proofs.article.fields.FieldWordsIterator.next.Goals as goal

pub returns-then-not-is_continuation-clause-steps : goal.returns-then-not-is_continuation-clause-steps
returns-then-not-is_continuation-clause-steps c = search (rules, last_line)

pub returns-in-Some-next-2-clause-steps : goal.returns-in-Some-next-2-clause-steps
returns-in-Some-next-2-clause-steps c = search (rules, next_line)

pub loop-line-preserved : goal.loop-line-preserved
loop-line-preserved c = search (rules, next_line)

pub returns-in-Some-next-2-clause-goes : goal.returns-in-Some-next-2-clause-goes
returns-in-Some-next-2-clause-goes c = rw (returns-in-Some-next-2-clause-steps c) (search rules)
