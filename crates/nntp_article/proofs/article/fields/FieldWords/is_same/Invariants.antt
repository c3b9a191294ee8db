use Rattle.std.proofs.Common.{◌≡◌, ◌↔◌}
use Rattle.nntp_article.proofs.article.fields.FieldWords.is_same.Given as goal

-- all are the same exactly if those that are left are
abbrev pub invariant-loop-word : goal.invariant-loop-word
invariant-loop-word l = (l.left ≡ l.right) ↔ (l.fn.self ≡ l.fn.others)
