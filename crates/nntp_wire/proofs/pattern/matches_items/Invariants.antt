use Rattle.std.proofs.Common.{ℕ, List, ◌+◌, ◌*◌, ◌≤◌, length, map}
use Rattle.nntp_wire.{specs.{Name.{IsUtf8Of}, Wildmat.{Matches, item_of}}, proofs.PatternLemmas.{Search}}
use Rattle.nntp_wire.proofs.pattern.matches_items.Given as goal

-- the pattern matches the text exactly if what is left of the search does
abbrev pub invariant-loop-rest : goal.invariant-loop-rest
invariant-loop-rest l = record {
  search : (ps ts : List ℕ) → IsUtf8Of ps l.pattern → IsUtf8Of ts l.text → Search (Matches (map item_of ps) ts) l.items l.left l.after l.from;
  items : length l.items ≤ length l.after;
  left : length l.left ≤ length l.text;
  tried : length l.from ≤ length l.text;
}

abbrev pub decreases-loop-rest : goal.decreases-loop-rest
decreases-loop-rest l = length l.after * ((length l.text + 1) * (length l.text + 1)) + length l.from * (length l.text + 1) + length l.left
