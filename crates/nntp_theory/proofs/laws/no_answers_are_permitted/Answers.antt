use Rattle.std.proofs.Common.{[]}
use Rattle.nntp_theory.proofs.Given.FirstBadAnswer.{none_permitted}
use Rattle.nntp_theory.proofs.laws.no_answers_are_permitted.Goals as goal

pub returns : goal.returns
returns c = λ profile ps. none_permitted profile ps []
