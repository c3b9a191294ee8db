use Rattle.nntp_kept.proofs.Base.{arith, true≢false, or_left, or_right, same_text, same_itself}
use Rattle.nntp_kept.proofs.groups.listed.first_unlisted.Goals as goal

pub returns-in-Some-group_unlisted : goal.returns-in-Some-group_unlisted
returns-in-Some-group_unlisted g c = grind (arith, or_left, same_itself)

pub loop-name-preserved : goal.loop-name-preserved
loop-name-preserved g c = (
  tt,
  tt,
  λ name s. grind (arith, or_right, c.loop-name.invariant.2 name),
  λ name there named unlisted.
      grind (arith, c.loop-name.invariant.3 name there named unlisted, same_text c.in-Some.name.now.items name, c.as_slice.ensures.value, c.group_unlisted.ensures, true≢false),
)
