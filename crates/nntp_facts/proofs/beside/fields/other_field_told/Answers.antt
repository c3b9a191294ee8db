use Rattle.nntp_facts.{proofs.Base.{ap, subst, sym, MatchOption, said_kept, get, words_in, ◌≢◌}, specs.Inner.Points.{IsOtherField}}
use Rattle.nntp_theory.specs.Conflict.{FieldOf}
use Rattle.nntp_facts.proofs.beside.fields.other_field_told.Goals as goal

pub returns : goal.returns
returns g c = let point = FieldOf c.as_bytes.result.now c.in_ok-field.field in
    subst (λ told. IsOtherField c.args.kept.now c.args.id.now told point) (sym c.in_ok-told.was) (
      c.in_ok-field.field,
      ap (λ id. FieldOf id c.in_ok-field.field) c.as_bytes.ensures.value,
      subst (λ articles. MatchOption (said_kept (get articles c.args.id.now)).fields ⊥ (λ before. words_in c.in_ok-told.field-0 c.in_ok-field.field ≢ words_in before c.in_ok-field.field))
          c.articles.ensures c.in_ok-field.ensures,
    )
