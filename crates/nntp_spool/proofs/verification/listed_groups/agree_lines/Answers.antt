use Rattle.std.proofs.{Common.{arith}, lemmas.Bool.{true≢false}}
use Rattle.nntp_article.proofs.SessionLemmas.LinesLeft.{next_left, none_left}
use Rattle.nntp_spool.proofs.ListedGroups.{one_agrees}
use Rattle.nntp_spool.proofs.verification.listed_groups.agree_lines.Goals as goal

pub returns-then-not-agrees_line : goal.returns-then-not-agrees_line
returns-then-not-agrees_line g c = grind (arith, next_left, true≢false)

pub loop-group-preserved : goal.loop-group-preserved
loop-group-preserved g c = grind (arith, next_left, one_agrees)

pub returns : goal.returns
returns g c = grind (arith, none_left)
