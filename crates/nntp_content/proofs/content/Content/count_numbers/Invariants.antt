use Rattle.std.{proofs.Common.{◌≡◌, ◌+◌, ◌*◌, ◌^◌, ◌<◌, sum, map, length}, specs.FinMap.{len}}
use Rattle.nntp_content.specs.Counts.{numbers_in}
use Rattle.nntp_content.proofs.content.Content.count_numbers.Given as goal

abbrev pub invariant-loop-numbers : goal.invariant-loop-numbers
invariant-loop-numbers g l = record {
  total : l.total + sum (map (λ e. len e.1) l.entries) ≡ numbers_in l.self;
  small : l.total + length l.entries * (2 ^ 64) < 2 ^ 128;
}
