use Rattle.nntp_facts.{proofs.Base.{◌++◌, sym, subst, arith, option_map, if_ok, point_of, IsPointOf, NoneBefore}, specs.Inner.StatementView.{rank_of}}
use Rattle.nntp_facts.proofs.beside.point.Goals as goal

pub returns-in-Step : goal.returns-in-Step
returns-in-Step g c profile facts more limit h before = grind (arith, c.impossible.ensures profile facts more c.args.kept.now h)

pub returns-in-IdOf : goal.returns-in-IdOf
returns-in-IdOf g c profile facts more limit h before = grind (arith, c.other_id.ensures profile facts more h)

pub returns-in-PlaceOf : goal.returns-in-PlaceOf
returns-in-PlaceOf g c profile facts more limit h before = grind (arith, c.other_place.ensures profile facts more h)

pub returns-in-Article : goal.returns-in-Article
returns-in-Article g c profile facts more limit h before = grind (arith, c.denied_article.ensures profile facts more h)

pub returns-in-HeadOf : goal.returns-in-HeadOf
returns-in-HeadOf g c profile facts more limit h before = grind (arith, c.other_head.ensures profile facts more h)

pub returns-in-BodyOf : goal.returns-in-BodyOf
returns-in-BodyOf g c profile facts more limit h before = grind (arith, c.other_body.ensures profile facts more h)

pub returns-in-FieldOf : goal.returns-in-FieldOf
returns-in-FieldOf g c profile facts more limit h before = grind (arith, c.other_field.ensures profile facts more h)

pub returns-in-Group : goal.returns-in-Group
returns-in-Group g c = if_ok c.denied_group.result (λ point found profile facts more limit h before.
    subst (λ kind. IsPointOf (facts ++ more) (rank_of kind) (option_map point_of point)) (sym c.in-Group.is) (found profile facts more h)) c.denied_group.ensures

pub returns-in-Numbers : goal.returns-in-Numbers
returns-in-Numbers g c = if_ok c.point_of_numbers.result (λ point found profile facts more limit h before.
    subst (λ kind. IsPointOf (facts ++ more) (rank_of kind) (option_map point_of point)) (sym c.in-Numbers.is)
    (found profile facts more limit h (subst (λ kind. NoneBefore (facts ++ more) (rank_of kind)) c.in-Numbers.is before))) c.point_of_numbers.ensures
