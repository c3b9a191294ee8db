use Rattle.std.proofs.Common.{ℕ, ◌≤◌, ◌<◌, IsTrue, List}
use Rattle.nntp_said.specs.Facts.{Fact}
use Rattle.nntp_theory.specs.Given.{invented, is_mentioned}
use Rattle.nntp_witness.specs.Inner.Witness.{HaveArticles}
use Rattle.nntp_witness.proofs.invented.invent.Given as goal

-- the ids that were invented before are mentioned
abbrev pub invariant-loop-number : goal.invariant-loop-number
invariant-loop-number g l = record {
  from : l.from ≤ l.number;
  taken : (said : List Fact) → HaveArticles l.facts said → (m : ℕ) → l.from ≤ m → m < l.number → IsTrue (is_mentioned said (invented m));
}
