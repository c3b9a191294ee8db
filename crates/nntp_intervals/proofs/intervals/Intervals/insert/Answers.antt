use Rattle.nntp_intervals.proofs.Joins.{IsUnion, inserted, uncovered}
use Rattle.nntp_intervals.proofs.intervals.Intervals.insert.Given as given
use Rattle.nntp_intervals.proofs.intervals.Intervals.insert.Goals as goal

is_union : (g : given.Over) (c : goal.After-remove_within g) → IsUnion c.args.self.now c.remove_within.new.lasts.entries c.args.first c.args.last
is_union g c =
    inserted c.self.inside.lasts c.insert.new.self c.remove_within.new.lasts c.args.self.now c.args.first c.args.last c.first_joined-start.result c.last_joined-end.result
    c.self.view_is c.self.invariant c.in_ok-insert.ensures.was_ordered (c.remove_within.ensures.ordered c.in_ok-insert.ensures.ordered)
    (uncovered c.args.self.now c.args.first c.args.last c.covers.result c.covers.ensures c.if-covers.false)
    c.last_joined-end.type_inv c.first_joined-start.ensures c.last_joined-end.ensures c.in_ok-insert.ensures.updates.0
    c.remove_within.ensures.gone

pub invariant_of-self-2 : goal.invariant_of-self-2
invariant_of-self-2 g c = (is_union g c).0

pub returns-clause-ok : goal.returns-clause-ok
returns-clause-ok g c = (is_union g c).1
