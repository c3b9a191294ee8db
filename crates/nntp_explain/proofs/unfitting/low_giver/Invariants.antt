use Rattle.std.{proofs.Common.{◌≡◌, ◌+◌, drop}, specs.Prelude.{option_map}}
use Rattle.nntp_explain.specs.Reasons.{low_giver}
use Rattle.nntp_explain.proofs.unfitting.low_giver.Given as goal

-- the place among those that are left is so far behind the places that were looked at
abbrev pub invariant-loop-place : goal.invariant-loop-place
invariant-loop-place l = option_map (λ k. k + l.place) (low_giver l.name l.low (drop l.place l.answers)) ≡ low_giver l.name l.low l.answers
