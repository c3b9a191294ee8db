use Rattle.std.proofs.Common.{sym, refl, ◌∙◌, slice_index_or, arith}
use Rattle.nntp_wire.{specs.{Misspelling.{arguments_of}, declared.misspelling.Due.TheVariants.{Number}}, proofs.MisspellingLemmas.{argument-first}}
use Rattle.nntp_wire.proofs.MisspellingLemmas.{argument-none, argument-missing, argument-wrong, argument-right}
use Rattle.nntp_wire.proofs.misspelling.argument_misspelling.Goals as goal

pub returns-in_default : goal.returns-in_default
returns-in_default c =
    let due = slice_index_or c.args.dues.now c.loop-due.due-index Number in
    let missing = argument-missing c.loop-due.place c.loop-due.due-index c.args.dues.now Number due c.loop-due-test.true refl (arguments_of c.loop-due.rest.now)
    (argument-none c.loop-due.rest.now c.in_default.ensures) in
    sym missing ∙ c.loop-due.invariant.1

pub returns-then-not-is_argument : goal.returns-then-not-is_argument
returns-then-not-is_argument c =
    let due = slice_index_or c.args.dues.now c.loop-due.due-index Number in
    let front = argument-first c.loop-due.rest.now c.in-Some.word.now c.in-Some.others.now c.in-Some.ensures in
    let wrong = argument-wrong c.loop-due.place c.loop-due.due-index c.args.dues.now Number due c.loop-due-test.true refl (arguments_of c.loop-due.rest.now)
    (arguments_of c.in-Some.others.now) c.in-Some.word.now front (sym c.is_argument.ensures ∙ c.if-not-is_argument.true) in
    sym wrong ∙ c.loop-due.invariant.1

pub loop-due-preserved : goal.loop-due-preserved
loop-due-preserved c = grind (arith, argument-first, argument-right)
