use Rattle.std.proofs.Common.{◌↔◌, drop}
use Rattle.nntp_said.specs.Inner.{FactView.{facts_at}, Places.{Place}}
use Rattle.nntp_said.proofs.said_facts.one_places.Given as goal

-- an id that a fact gives, one of those that are left gives
abbrev pub invariant-loop-place : goal.invariant-loop-place
invariant-loop-place l = Place l.id (facts_at l.places) ↔ Place l.id (facts_at (drop l.place-index l.places))
