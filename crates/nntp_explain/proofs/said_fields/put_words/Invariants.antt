use Rattle.std.{proofs.Common.{◌≡◌, ◌∷◌, ◌++◌, take}, specs.List.{flat_map}}
use Rattle.nntp_wire.specs.Octets.{space}
use Rattle.nntp_printing.specs.{Printing.{escaped}, BadAnswer.{shown}}
use Rattle.nntp_explain.specs.Says.{spaced}
use Rattle.nntp_explain.proofs.said_fields.put_words.Given as goal

-- with the words that are left, as far as there is room for them, the text is whole
abbrev pub invariant-loop-word : goal.invariant-loop-word
invariant-loop-word g l =
    (goal.iterator-loop-word g).can_next l.word-iterator × (goal.iterator-loop-word g).is_finite l.word-iterator
    × (l.text.items ++ escaped (take l.room (flat_map (λ w. space ∷ w) l.word-iterator)) ≡ l.fn.text.items ++ escaped (shown (spaced (l.fn.first ∷ l.fn.more))))
