use Rattle.std.proofs.{Common.{arith}, lemmas.List.{append-nil}}
use Rattle.nntp_check.proofs.RunLemmas.{named-there}
use Rattle.nntp_check.proofs.report.first_lines.Goals as goal

pub returns-in_ok-put_bad_answer-in-Bad : goal.returns-in_ok-put_bad_answer-in-Bad
returns-in_ok-put_bad_answer-in-Bad g c = grind (arith, named-there, append-nil)
