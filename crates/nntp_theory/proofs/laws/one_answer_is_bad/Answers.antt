use Rattle.nntp_theory.proofs.Given.FirstBadAnswer.{permitted_or_bad, never_both, one_bad}
use Rattle.nntp_theory.proofs.laws.one_answer_is_bad.Goals as goal

pub returns : goal.returns
returns c = record { permitted_or_bad = permitted_or_bad; never_both = never_both; one_bad = one_bad }
