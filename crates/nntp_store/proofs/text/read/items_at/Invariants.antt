use Rattle.std.proofs.Common.{◌≡◌, ◌-◌, false}
use Rattle.nntp_store.specs.{Reading.{items_at}, Inner.ReadingView.{place_shown}}
use Rattle.nntp_store.proofs.text.read.items_at.Given as goal

abbrev pub invariant-loop : goal.invariant-loop
invariant-loop g l = items_at l.limit (l.most - l.counter) l.articles l.gathered (place_shown l.rest) ≡ items_at l.limit l.most false l.fn.gathered (place_shown l.place)
