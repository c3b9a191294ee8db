use Rattle.std.{proofs.Common.{◌≡◌, ◌++◌, drop}, specs.{Prelude.{codes, decimal}, List.{flat_map}}}
use Rattle.nntp_explain.proofs.reasons.put_codes.Given as goal

abbrev pub invariant-loop-code : goal.invariant-loop-code
invariant-loop-code g l =
    l.text.items ++ flat_map (λ code. codes " " ++ decimal code) (drop l.code-index l.found) ≡ l.fn.text.items ++ flat_map (λ code. codes " " ++ decimal code) l.found
