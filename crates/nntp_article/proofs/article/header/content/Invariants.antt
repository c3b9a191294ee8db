use Rattle.nntp_article.proofs.ArticleLemmas.ContentLemmas.{Leads}
use Rattle.nntp_article.proofs.article.header.content.Given as goal

-- the octets so far lead to the content
abbrev pub invariant-loop-line : goal.invariant-loop-line
invariant-loop-line g l = Leads l.octets.items l.lines l.header
