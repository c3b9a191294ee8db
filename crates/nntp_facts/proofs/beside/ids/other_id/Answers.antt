use Rattle.nntp_facts.proofs.Base.{ap, sym, ◌∙◌, None, Some, option_map, or_none, told, of_group, id_at, point_of, overviews_said, statement_of}
use Rattle.nntp_facts.proofs.PointsFound.IdsBeside.{no_ids, id_point, listed_id_point}
use Rattle.nntp_facts.proofs.beside.ids.other_id.Goals as goal

pub returns-in_default : goal.returns-in_default
returns-in_default g c profile facts more h = no_ids profile facts c.args.kept.now (statement_of c.args.told.now) more h (ap (option_map of_group) c.in_default.is)

pub returns-in-Some-overviews : goal.returns-in-Some-overviews
returns-in-Some-overviews g c profile facts more h =
    listed_id_point profile facts c.args.kept.now (statement_of c.args.told.now) more h (of_group c.in-Some.group) (ap (option_map of_group) c.in-Some.is)
    (overviews_said c.in-Some-overviews.list) (ap (option_map overviews_said) c.in-Some-overviews.is) (option_map point_of c.other_listed_id.result)
    (c.other_listed_id.ensures (told facts) h.kept.groups)

pub returns-in_err-at : goal.returns-in_err-at
returns-in_err-at g c profile facts more h = id_point profile facts c.args.kept.now (statement_of c.args.told.now) more h (of_group c.in-Some.group) (ap (option_map of_group) c.in-Some.is)
    (ap (option_map overviews_said) c.in_default-overviews.is) None (ap id_at c.in_err-at.was) (option_map point_of c.from_residual.result) (ap (option_map point_of) c.from_residual.ensures)

pub returns : goal.returns
returns g c profile facts more h = id_point profile facts c.args.kept.now (statement_of c.args.told.now) more h (of_group c.in-Some.group) (ap (option_map of_group) c.in-Some.is)
    (ap (option_map overviews_said) c.in_default-overviews.is) (Some (c.in_ok-at.at.number, c.in_ok-at.at.id.now)) (ap id_at c.in_ok-at.was)
    (option_map point_of c.other_id_at.result) (c.other_id_at.ensures (told facts) h.kept.groups ∙ sym (or_none _))
