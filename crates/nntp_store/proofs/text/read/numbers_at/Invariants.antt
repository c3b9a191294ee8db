use Rattle.std.proofs.Common.{◌≡◌, ◌-◌}
use Rattle.nntp_store.specs.{Reading.{numbers_at, number_at, repeat}, Inner.ReadingView.{place_shown}}
use Rattle.nntp_store.proofs.text.read.numbers_at.Given as goal

abbrev pub invariant-loop : goal.invariant-loop
invariant-loop g l = repeat (number_at l.limit) (l.count - l.counter) (l.numbers, place_shown l.rest) ≡ numbers_at l.limit l.count (place_shown l.place)
