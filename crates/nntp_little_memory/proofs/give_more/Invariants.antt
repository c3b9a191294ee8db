use Rattle.std.{proofs.Common.{◌-◌}, specs.Prelude.{⊤}}
use Rattle.nntp_little_memory.proofs.give_more.Given as goal

abbrev pub invariant-loop-size : goal.invariant-loop-size
invariant-loop-size g l = ⊤

-- the octets that are given grow up to those that are ample
abbrev pub decreases-loop-size : goal.decreases-loop-size
decreases-loop-size g l = 262144 - l.size
