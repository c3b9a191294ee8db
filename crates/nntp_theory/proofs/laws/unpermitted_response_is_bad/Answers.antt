use Rattle.std.{specs.Prelude.{⊤}, proofs.Common.{refl}}
use Rattle.nntp_theory.proofs.Streams.PairedStreams.{bad_answer, answer_has_class, unfitting}
use Rattle.nntp_theory.proofs.laws.unpermitted_response_is_bad.Goals as goal

pub returns : goal.returns
returns c = record {
  bad = λ profile client server pairs pair before after paired next some none.
      bad_answer profile client server pairs pair before after paired next (λ S. ⊤) some.0 some.1 tt some.2 (λ T spool u run. none (T, spool, run));
  class = λ profile client server pairs pair before after paired next. answer_has_class profile client server pairs pair before after paired next _ refl;
  unfitting = unfitting;
}
