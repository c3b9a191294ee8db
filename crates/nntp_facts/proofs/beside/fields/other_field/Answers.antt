use Rattle.nntp_facts.proofs.Base.{rules, None, refl, ap, option_map, overviews_of, Lacks, Exists, article_said, overviews_said, point_of, statement_of}
use Rattle.nntp_facts.proofs.PointsFound.FieldsBeside.{listed_field, no_field, field_point, head_point, overview_point}
use Rattle.nntp_facts.proofs.beside.fields.other_field.Goals as goal

pub returns-in-Some : goal.returns-in-Some
returns-in-Some g c profile facts more h =
    listed_field profile facts c.args.kept.now (statement_of c.args.told.now) more h (overviews_said c.in-Some.list) (ap (option_map overviews_said) c.in-Some.is)
    (option_map point_of c.other_listed_field.result) c.other_listed_field.ensures

pub returns-in-None : goal.returns-in-None
returns-in-None g c profile facts more h =
    no_field profile facts c.args.kept.now (statement_of c.args.told.now) more h (ap (option_map overviews_said) c.in_default.is) (ap (option_map article_said) c.in-None.is)

pub returns-in-Some-Lacks : goal.returns-in-Some-Lacks
returns-in-Some-Lacks g c profile facts more h =
    field_point profile facts c.args.kept.now (statement_of c.args.told.now) more h c.in-Some-Lacks.field-0-0.now Lacks (search rules) None refl None tt

pub returns-in-Some-Exists : goal.returns-in-Some-Exists
returns-in-Some-Exists g c profile facts more h =
    field_point profile facts c.args.kept.now (statement_of c.args.told.now) more h c.in-Some-Exists.field-0-0.now Exists (search rules) None refl None tt

pub returns-in-Some-Sends : goal.returns-in-Some-Sends
returns-in-Some-Sends g c profile facts more h =
    let w = c.in-Some-Sends in
    head_point profile facts c.args.kept.now (statement_of c.args.told.now) more h w.id.now w.what (option_map (λ b. b.now) w.block) (search rules) c.of.result.head (c.of.ensures.head w.id.now)
    (option_map point_of c.other_field_sent.result) c.other_field_sent.ensures

pub returns-in-Some-Describes : goal.returns-in-Some-Describes
returns-in-Some-Describes g c profile facts more h =
    overview_point profile facts c.args.kept.now (statement_of c.args.told.now) more h c.in-Some-Describes.field-0-0.now (overviews_of c.in-Some-Describes.block.now) (search rules)
    (option_map point_of c.other_listed_field-in-Some-Describes.result) c.other_listed_field-in-Some-Describes.ensures
