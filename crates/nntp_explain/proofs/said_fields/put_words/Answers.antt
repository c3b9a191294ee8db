use Rattle.std.proofs.{Common.{arith, rules}, lemmas.Grind.{common_steps}}
use Rattle.nntp_explain.proofs.SaidLines.{words_begin, word_told}
use Rattle.nntp_explain.proofs.said_fields.put_words.Goals as goal

pub loop-word-init : goal.loop-word-init
loop-word-init g c = search (rules, words_begin)

pub loop-word-preserved : goal.loop-word-preserved
loop-word-preserved g c = (
  tt,
  tt,
  word_told c.loop-word.word-iterator c.next.new.self c.in-Some.word.now c.loop-word.text.items c.put_front-in-loop-word.new.text.items c.put_front-in-loop-word-2.new.text.items _
      c.loop-word.room c.in_ok-room-2.room c.in_ok-room-3.room c.in-Some.ensures.steps c.in_ok-room-2.ensures.front c.in_ok-room-2.ensures.left
      c.in_ok-room-3.ensures.front c.in_ok-room-3.ensures.left c.loop-word.invariant.2,
)

pub returns : goal.returns
returns g c = grind (arith, common_steps)
