use Rattle.nntp_facts.proofs.Base.{sym, subst, arith, AreKeptArticles}
use Rattle.nntp_facts.proofs.beside.articles.other_head_sent.Goals as goal

pub returns : goal.returns
returns g c facts kept = grind (arith, c.may_have_head.ensures facts (subst (AreKeptArticles facts) (sym c.articles.ensures) kept.articles))
