use Rattle.nntp_facts.{proofs.Base.{ap, ◌∙◌, if_ok, stands_of, FactsKept}, specs.Inner.Points.{held_by}}
use Rattle.nntp_facts.proofs.facts.Facts.refusal.Goals as goal

pub returns-clause-held : goal.returns-clause-held
returns-clause-held g c = if_ok c.of.result (λ refusal is. is ∙ ap (λ (f : FactsKept). held_by f (stands_of c.args.bad.now)) c.self.view_is) c.of.ensures.held
