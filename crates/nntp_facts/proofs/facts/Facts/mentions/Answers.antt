use Rattle.nntp_facts.proofs.Base.{ap, sym, subst, ◌∙◌, AreKeptArticles}
use Rattle.nntp_facts.proofs.facts.Facts.mentions.Goals as goal

pub returns-clause-kept : goal.returns-clause-kept
returns-clause-kept g c facts kept = c.mentions.ensures.facts facts (subst (AreKeptArticles facts) (ap (λ f. f.kept.articles) (sym c.self.view_is) ∙ sym c.articles.ensures) kept)
