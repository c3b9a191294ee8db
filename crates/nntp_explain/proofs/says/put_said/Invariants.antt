use Rattle.std.{proofs.Common.{◌≡◌, ◌++◌}, specs.List.{flat_map}}
use Rattle.nntp_facts.specs.{Inner.PointView.{point_of}, Standing.{stands_of}}
use Rattle.nntp_explain.specs.Says.{said_lines, says}
use Rattle.nntp_explain.proofs.says.put_said.Given as goal

-- with what the facts say that are left, the text is that of all of them
abbrev pub invariant-loop-fact : goal.invariant-loop-fact
invariant-loop-fact g l =
    (goal.iterator-loop-fact g).can_next l.fact-iterator × (goal.iterator-loop-fact g).is_finite l.fact-iterator
    × (l.text.items ++ flat_map (says l.about.line (point_of l.about.point)) l.fact-iterator ≡ l.fn.text.items ++ said_lines l.fn.how l.about.line (point_of l.about.point) (stands_of l.answer))
