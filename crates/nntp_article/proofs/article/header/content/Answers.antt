use Rattle.std.proofs.Common.{◌∙◌, ap, rules}
use Rattle.nntp_article.{specs.Article.Parts.{skip_last_blanks}, proofs.ArticleLemmas.ContentLemmas.{leads-start, leads-more, leads-end}}
use Rattle.nntp_article.proofs.article.header.content.Goals as goal

pub loop-line-init : goal.loop-line-init
loop-line-init g c = search (rules, leads-start)

pub loop-line-preserved : goal.loop-line-preserved
loop-line-preserved g c = search (rules, leads-more)

pub returns : goal.returns
returns g c =
    leads-end c.loop-line.octets.items c.truncate.new.self.items c.skip_last_blanks-len.result.now c.loop-line.lines c.args.header.now
    c.loop-line.invariant c.in_default-next.ensures.steps.0 (c.skip_last_blanks-len.ensures ∙ ap skip_last_blanks c.deref.ensures.value) c.truncate.ensures.items
