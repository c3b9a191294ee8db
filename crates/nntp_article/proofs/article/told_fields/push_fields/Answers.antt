use Rattle.std.proofs.{Common.{sym, subst, arith}, lemmas.Grind.{common_steps}}
use Rattle.nntp_article.specs.{Inner.Fields.{AreWords}, declared.article.field.Field.TheVariants.{Subject, From, Date, References}}
use Rattle.nntp_article.proofs.article.told_fields.push_fields.Goals as goal

pub push_field-requires : goal.push_field-requires
push_field-requires g c = subst AreWords (sym c.told.view_is) c.requires Subject

pub push_field-requires-2 : goal.push_field-requires-2
push_field-requires-2 g c = subst AreWords (sym c.told.view_is) c.requires From

pub push_field-requires-3 : goal.push_field-requires-3
push_field-requires-3 g c = subst AreWords (sym c.told.view_is) c.requires Date

pub push_field-requires-4 : goal.push_field-requires-4
push_field-requires-4 g c = subst AreWords (sym c.told.view_is) c.requires References

pub returns : goal.returns
returns g c = grind (arith, common_steps)
