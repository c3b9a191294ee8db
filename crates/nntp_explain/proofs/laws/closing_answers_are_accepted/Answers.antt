use Rattle.nntp_explain.proofs.ClosingAnswers.{never_refused}
use Rattle.nntp_explain.proofs.laws.closing_answers_are_accepted.Goals as goal

pub returns : goal.returns
returns c = λ profile facts earlier past pair before after noted due judged. never_refused profile facts earlier past pair noted due judged.1
