use Rattle.std.proofs.Common.{◌≡◌, ◌-◌}
use Rattle.nntp_store.specs.{Reading.{barred_lines_at, barred_line_at, repeat}, Inner.ReadingView.{place_shown}}
use Rattle.nntp_store.proofs.text.read.barred_lines_at.Given as goal

abbrev pub invariant-loop : goal.invariant-loop
invariant-loop g l = repeat barred_line_at (l.count - l.counter) (l.lines, place_shown l.rest) ≡ barred_lines_at l.count (place_shown l.place)
