use Rattle.std.proofs.{Common.{arith, length-append}, lemmas.Grind.{common_steps}}
use Rattle.nntp_explain.proofs.SessionAnswers.{bad_long}
use Rattle.nntp_explain.proofs.explainer.Explainer.put_bad.Goals as goal

-- there are no more bad answers than octets of the text
pub overflow_add-self : goal.overflow_add-self
overflow_add-self g c = grind (arith, length-append, bad_long)

pub returns-in_ok-put_standing-clause-kept : goal.returns-in_ok-put_standing-clause-kept
returns-in_ok-put_standing-clause-kept g c = grind (arith, common_steps)

pub returns-else-is_told-clause-kept : goal.returns-else-is_told-clause-kept
returns-else-is_told-clause-kept g c = grind (arith, common_steps)

pub returns-in_ok-put_standing-clause-text : goal.returns-in_ok-put_standing-clause-text
returns-in_ok-put_standing-clause-text g c = grind (arith, common_steps)
