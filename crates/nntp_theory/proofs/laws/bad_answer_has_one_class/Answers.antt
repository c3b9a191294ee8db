use Rattle.std.specs.Prelude.{⊤}
use Rattle.nntp_theory.proofs.Streams.OneClass.{before_bad, class_there, one_class}
use Rattle.nntp_theory.proofs.laws.bad_answer_has_one_class.Goals as goal

pub returns : goal.returns
returns c = λ profile client server k bad.
    let c = class_there profile client server k (before_bad (λ S. ⊤) profile client server k bad) in
    (c.0, c.1, λ other h. one_class profile client server k other c.0 h c.1)
