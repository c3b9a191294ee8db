use Rattle.std.proofs.Common.{◌≡◌, [], None, Some}
use Rattle.nntp_article.specs.Inner.Fields.{words_left}
use Rattle.nntp_article.proofs.article.fields.FieldWordsIterator.next.Given as goal

-- what the lines that are left have is all, and nothing is in hand
abbrev pub invariant-loop-line : goal.invariant-loop-line
invariant-loop-line l = record {
  left : words_left [] (Some l.lines) ≡ l.fn.self;
  words : l.self-inside.words ≡ [];
  lines : l.self-inside.lines ≡ None;
}
