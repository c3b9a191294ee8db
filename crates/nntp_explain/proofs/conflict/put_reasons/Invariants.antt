use Rattle.std.{proofs.Common.{◌≡◌, ◌++◌, drop}, specs.List.{flat_map}}
use Rattle.nntp_facts.specs.Inner.PointView.{point_of}
use Rattle.nntp_explain.specs.Says.{reason_lines}
use Rattle.nntp_explain.proofs.conflict.put_reasons.Given as goal

-- with the reasons at the places that are left, the text is that of all of them
abbrev pub invariant-loop-place : goal.invariant-loop-place
invariant-loop-place g l =
    l.text.items ++ flat_map (reason_lines l.here l.how l.about.line (point_of l.about.point) l.answers) (drop l.place-index l.places)
    ≡ l.fn.text.items ++ flat_map (reason_lines l.here l.how l.about.line (point_of l.about.point) l.answers) l.places
