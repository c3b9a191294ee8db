use Rattle.nntp_theory.proofs.{Members.{contains_in, in_contains}, Conflicts.{core_start, core_step, core_done, found_in_each, one_below}}
use Rattle.nntp_theory.proofs.laws.core_is_found.Goals as goal

pub returns : goal.returns
returns c = search (core_start, core_step, contains_in, found_in_each, in_contains, core_done, one_below)
