use Rattle.std.proofs.Common.{◌≡◌, ◌++◌}
use Rattle.nntp_wire.proofs.JoinedWords.{spaced}
use Rattle.nntp_article.proofs.article.told_fields.put_words.Given as goal

-- the words that are left are still to be written
abbrev pub invariant-loop-word : goal.invariant-loop-word
invariant-loop-word g l = l.line.items ++ spaced l.words ≡ l.fn.line.items ++ spaced l.fn.words
