use Rattle.std.proofs.Common.{◌≡◌, ◌+◌, length, option_map}
use Rattle.nntp_explain.specs.Says.{first_difference}
use Rattle.nntp_explain.proofs.said_parts.first_difference.Given as goal

-- the lines that are left differ so far behind the place
abbrev pub invariant-loop-our : goal.invariant-loop-our
invariant-loop-our l =
    goal.iterator-loop-our.can_next l.our-iterator × goal.iterator-loop-our.is_finite l.our-iterator
    × (option_map (λ n. n + l.place) (first_difference l.our-iterator l.theirs) ≡ first_difference l.these l.those)
    × (l.place + length l.our-iterator ≡ length l.these) × (l.place + length l.theirs ≡ length l.those)
