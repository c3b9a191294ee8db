use Rattle.std.{proofs.Common.{◌≡◌, ◌++◌, drop, map}, specs.List.{flat_map}}
use Rattle.nntp_article.specs.Inner.View.{control_value}
use Rattle.nntp_check.specs.Show.{control_line}
use Rattle.nntp_check.proofs.show.put_controls.Given as goal

abbrev pub invariant-loop-control : goal.invariant-loop-control
invariant-loop-control g l =
    l.text.items ++ flat_map control_line (map control_value (drop l.control-index l.controls)) ≡ l.fn.text.items ++ flat_map control_line (map control_value l.controls)
