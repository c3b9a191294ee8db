use Rattle.nntp_kept.proofs.kept.Kept.note_overviews.Goals as goal

pub returns : goal.returns
returns g c facts range kept t formed may =
    let joined = (c.may_list_overviews.ensures facts range kept t formed may).0 c.if-not-may_list_overviews.false in (joined, c.in_ok-list_overviews.ensures facts range kept t may joined)
