use Rattle.std.proofs.Common.{◌≡◌, drop}
use Rattle.nntp_facts.specs.Inner.PointView.{point_of}
use Rattle.nntp_explain.specs.Says.{first_part}
use Rattle.nntp_explain.proofs.conflict.first_part.Given as goal

-- the first that is sent is among those that are left
abbrev pub invariant-loop-place : goal.invariant-loop-place
invariant-loop-place l = first_part (point_of l.point) l.answers (drop l.place-index l.places) ≡ first_part (point_of l.point) l.answers l.places
