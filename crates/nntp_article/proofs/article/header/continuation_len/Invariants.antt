use Rattle.std.{proofs.Common.{◌≡◌, ◌+◌, ◌<◌, ◌^◌, ℕ, length}, specs.List.{prefix_len}}
use Rattle.nntp_article.specs.Article.Parts.{is_continuation}
use Rattle.nntp_article.proofs.article.header.continuation_len.Given as goal

pub record IsCounted (count left all before : ℕ) : Type 0 where
  pub counted : count + left ≡ all
  pub fits : count + before < 2 ^ 64

-- the lines so far continue
abbrev pub invariant-loop-line : goal.invariant-loop-line
invariant-loop-line l = IsCounted l.count (prefix_len is_continuation l.lines) (prefix_len is_continuation l.fn.lines) (length l.lines)
