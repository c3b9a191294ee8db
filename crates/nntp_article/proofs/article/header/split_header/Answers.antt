use Rattle.std.proofs.{Common.{sym, ◌∙◌, rules}, lemmas.List.Sums.{prefix_len-le-length}}
use Rattle.nntp_article.proofs.ArticleLemmas.HeadLemmas.{split-headers, split-is_header}
use Rattle.nntp_article.proofs.article.header.split_header.Goals as goal

pub overflow_add-continuation_len : goal.overflow_add-continuation_len
overflow_add-continuation_len c = search (rules, prefix_len-le-length)

pub invariant_of-result : goal.invariant_of-result
invariant_of-result c =
    split-is_header c.args.lines.now c.next.new.self c.split_at_line-lines.result.0 c.split_at_line-lines.result.1 c.in_ok-first.first.now c.continuation_len.result c.split_at_colon.result.0.now
    (sym c.lines-rest.ensures.lines ∙ c.in_ok-first.ensures.steps) c.continuation_len.ensures c.split_at_line-lines.ensures.front
    c.split_at_line-lines.ensures.back c.requires c.split_at_colon.ensures.name

pub returns : goal.returns
returns c =
    split-headers c.args.lines.now c.next.new.self c.split_at_line-lines.result.0 c.split_at_line-lines.result.1 c.in_ok-first.first.now c.continuation_len.result
    (sym c.lines-rest.ensures.lines ∙ c.in_ok-first.ensures.steps) c.continuation_len.ensures c.split_at_line-lines.ensures.front c.split_at_line-lines.ensures.back
