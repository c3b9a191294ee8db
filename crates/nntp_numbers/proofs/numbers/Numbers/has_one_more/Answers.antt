use Rattle.std.proofs.{Common.{ap, is_some, ◌∙◌, sym}, lemmas.Bool.{true≢false}}
use Rattle.nntp_numbers.proofs.{ConflictsOfNumbers.{more_found}, numbers.Numbers.has_one_more.Goals.{in-Absent, in_default}}
use Rattle.nntp_numbers.proofs.numbers.Numbers.has_one_more.Goals as goal

pub returns-then-matches : goal.returns-then-matches
returns-then-matches g c = λ asks sum bounded found. elim c.match-matches.branch [
  | in-Absent w ↦ more_found _ asks sum bounded (rw w.in-Absent.is at found) c.is_some.result (c.is_some.ensures ∙ ap is_some c.one_more.ensures)
  | in_default w ↦ absurd (true≢false (sym c.if-matches.true ∙ w.matches-is))
]
