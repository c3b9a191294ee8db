use Rattle.std.proofs.Common.{sym, ◌∙◌, ap, take, drop}
use Rattle.nntp_article.proofs.ArticleLemmas.LineLemmas.{colon-found, value-found, value-none, name-none}
use Rattle.nntp_article.proofs.article.head_line.split_at_colon.Goals as goal

pub returns-in-Some-clause-name : goal.returns-in-Some-clause-name
returns-in-Some-clause-name c = c.split_at.ensures.front ∙ ap (λ k. take k c.args.line.now) (sym (colon-found c.args.line.now c.in-Some.end c.in-Some.ensures))

pub returns-in-Some-clause-value : goal.returns-in-Some-clause-value
returns-in-Some-clause-value c = c.split_at-in-Some.ensures.back ∙ ap (drop 1) c.split_at.ensures.back ∙ value-found c.args.line.now c.in-Some.end c.in-Some.ensures

pub returns-in-None-clause-name : goal.returns-in-None-clause-name
returns-in-None-clause-name c = name-none c.args.line.now c.in-None.ensures

pub returns-in-None-clause-value : goal.returns-in-None-clause-value
returns-in-None-clause-value c = value-none c.args.line.now c.in-None.ensures
