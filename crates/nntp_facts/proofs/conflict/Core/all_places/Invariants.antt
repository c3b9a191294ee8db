use Rattle.nntp_facts.proofs.Base.{◌≡◌, below}
use Rattle.nntp_facts.proofs.conflict.Core.all_places.Given as goal

-- the places so far
abbrev pub invariant-loop-place : goal.invariant-loop-place
invariant-loop-place g l = l.all.items ≡ below l.place
