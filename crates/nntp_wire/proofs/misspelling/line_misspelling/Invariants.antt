use Rattle.std.proofs.Common.{◌≡◌, ◌+◌, ◌≤◌, length}
use Rattle.nntp_wire.specs.{Lines.{lines_of_stream}, Misspelling.{line_misspelling}}
use Rattle.nntp_wire.proofs.misspelling.line_misspelling.Given as goal

-- the first wrong one of all lines is that of those that are left
abbrev pub invariant-loop-line : goal.invariant-loop-line
invariant-loop-line l = (l.place + length l.rest ≤ 1 + length l.sent)
    × (line_misspelling l.kind l.place (lines_of_stream l.rest) ≡ line_misspelling l.fn.kind 1 (lines_of_stream l.sent))

abbrev pub decreases-loop-line : goal.decreases-loop-line
decreases-loop-line l = length l.rest
