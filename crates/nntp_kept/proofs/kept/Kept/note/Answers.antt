use Rattle.nntp_kept.proofs.{Base.{arith, IfOk-weaker, of_group, saying_of}, Keeping.NotedParts.{overviews_added}}
use Rattle.nntp_kept.proofs.kept.Kept.note.Goals as goal

pub returns-in-None-Some : goal.returns-in-None-Some
returns-in-None-Some g c =
    IfOk-weaker c.note_overviews.result _ _ (λ does adds listed facts more kept together formed t.
    grind (arith, overviews_added facts more (saying_of c.args.saying.now) (of_group c.in-None-Some.group.now), adds facts, c.overviews.ensures.overviews, c.group_of_overviews.ensures))
    c.note_overviews.ensures
