use Rattle.std.proofs.Common.{◌≡◌}
use Rattle.nntp_article.specs.Article.{Parts.{headers}, Fields.{name_of_field, words_named}}
use Rattle.nntp_article.proofs.article.fields.FieldWords.of_head.Given as goal

-- the lines that are left have the words
abbrev pub invariant-loop-line : goal.invariant-loop-line
invariant-loop-line l = words_named (name_of_field l.field) (headers l.rest) ≡ words_named (name_of_field l.field) (headers l.lines)
