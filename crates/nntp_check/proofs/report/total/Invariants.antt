use Rattle.std.{proofs.Common.{◌≡◌, ◌+◌, ◌*◌, ◌≤◌, ◌^◌, drop, sum}, specs.Prelude.{fold}}
use Rattle.nntp_check.proofs.report.total.Given as goal

abbrev pub invariant-loop-number : goal.invariant-loop-number
invariant-loop-number l = record {
  rest : fold (λ a n. a + n) l.total (drop l.number-index l.numbers) ≡ sum l.numbers;
  few : l.total ≤ l.number-index * 2 ^ 64;
}
