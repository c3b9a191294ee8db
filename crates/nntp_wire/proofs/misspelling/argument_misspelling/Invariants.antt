use Rattle.std.proofs.Common.{◌≡◌, ◌+◌, drop}
use Rattle.nntp_wire.specs.Misspelling.{arguments_of, argument_misspelling}
use Rattle.nntp_wire.proofs.misspelling.argument_misspelling.Given as goal

-- the first wrong one of all arguments is that of those that are left
abbrev pub invariant-loop-due : goal.invariant-loop-due
invariant-loop-due l = (l.place ≡ l.due-index + 1)
    × (argument_misspelling l.place (drop l.due-index l.dues) (arguments_of l.rest) ≡ argument_misspelling 1 l.dues (arguments_of l.bytes))
