use Rattle.std.proofs.{Common.{length-append, arith}, lemmas.Grind.{common_steps}}
use Rattle.nntp_wire.proofs.MisspellingLemmas.{line-right}
use Rattle.nntp_wire.proofs.misspelling.line_misspelling.Goals as goal

pub loop-line-preserved : goal.loop-line-preserved
loop-line-preserved c = grind (arith, line-right, length-append)

pub loop-line-smaller : goal.loop-line-smaller
loop-line-smaller c = grind (arith, common_steps)
