-- What is kept of numbers of which it is said alone that none is below low or above high.
use Rattle.std.specs.Prelude.{ℕ, None, []}
use Rattle.nntp_intervals.specs.Inner.Outside.{outside}
use Rattle.nntp_numbers.specs.Inner.Summary.{Summary}
use Rattle.nntp_theory.specs.declared.demand.Demand.TheVariants.{NoDemand}

-- of its numbers
abbrev pub numbers_between : ℕ → ℕ → Summary
numbers_between low high = record { shown = []; denied = outside low high; estimate = None; ends = None; demand = NoDemand }
