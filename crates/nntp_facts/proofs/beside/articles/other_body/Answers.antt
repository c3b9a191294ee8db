use Rattle.nntp_facts.proofs.Base.{rules, None, Some, refl, ap, option_map, overviews_of, Lacks, Exists, Describes, article_said, point_of, statement_of}
use Rattle.nntp_facts.proofs.PointsFound.ArticlesBeside.{Body, no_part, part_point}
use Rattle.nntp_facts.proofs.beside.articles.other_body.Goals as goal

pub returns-in-None : goal.returns-in-None
returns-in-None g c profile facts more h = no_part profile facts c.args.kept.now (statement_of c.args.told.now) more h Body None (ap (option_map article_said) c.in-None.is) tt

pub returns-in-Some-Lacks : goal.returns-in-Some-Lacks
returns-in-Some-Lacks g c profile facts more h =
    no_part profile facts c.args.kept.now (statement_of c.args.told.now) more h Body (Some (c.in-Some-Lacks.field-0-0.now, Lacks)) (search rules) refl

pub returns-in-Some-Exists : goal.returns-in-Some-Exists
returns-in-Some-Exists g c profile facts more h =
    no_part profile facts c.args.kept.now (statement_of c.args.told.now) more h Body (Some (c.in-Some-Exists.field-0-0.now, Exists)) (search rules) refl

pub returns-in-Some-Describes : goal.returns-in-Some-Describes
returns-in-Some-Describes g c profile facts more h =
    let a = Describes (overviews_of c.in-Some-Describes.field-0-1.now) in
    no_part profile facts c.args.kept.now (statement_of c.args.told.now) more h Body (Some (c.in-Some-Describes.field-0-0.now, a)) (search rules) refl

pub returns-in-Some-Sends : goal.returns-in-Some-Sends
returns-in-Some-Sends g c profile facts more h =
    let w = c.in-Some-Sends in
    part_point profile facts c.args.kept.now (statement_of c.args.told.now) more h Body w.id.now w.what (option_map (λ b. b.now) w.block) (search rules) c.of.result.body (c.of.ensures.body w.id.now)
    (option_map point_of c.other_body_sent.result) (c.other_body_sent.ensures facts h.kept)
