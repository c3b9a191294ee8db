use Rattle.nntp_kept.{proofs.Base.{ap, sym, ◌∙◌, fact_of, saying_of}, specs.Inner.Saying.{saying_with}}
use Rattle.nntp_kept.proofs.saying.Saying.add.Goals as goal

pub returns-in-FieldsAre : goal.returns-in-FieldsAre
returns-in-FieldsAre c = c.add_fields.ensures c.args.shown.now ∙ ap (λ fact. saying_with c.args.shown.now (fact_of fact) (saying_of c.args.self.now)) (sym c.in-FieldsAre.is)
