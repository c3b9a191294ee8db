use Rattle.nntp_explain.proofs.{ToldAnswers.{if_both}, ReadSessions.{explained_all}}
use Rattle.nntp_explain.proofs.explainer.Explainer.tell_all.Goals as goal

pub returns : goal.returns
returns g c =
    if_both c.finish.result c.finish.ensures.text c.finish.ensures.is_without_fault
    (λ found text good. explained_all c.in_ok-unanswered.ensures c.in_ok-put_number.ensures c.in_ok-push.ensures.items text good)
