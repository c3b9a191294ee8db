use Rattle.nntp_theory.proofs.Streams.OneClass.{bad_stays, class_stays}
use Rattle.nntp_theory.proofs.laws.settled_answer_stays_bad.Goals as goal

pub returns : goal.returns
returns c = search (bad_stays, class_stays)
