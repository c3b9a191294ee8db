use Rattle.std.proofs.{Common.{arith}, lemmas.Bool.{true≢false}}
use Rattle.nntp_article.proofs.SessionLemmas.LinesLeft.{next_left, none_left}
use Rattle.nntp_spool.proofs.verification.listed_overviews.stand_in.Goals as goal

pub returns-then-not-stands_in-clause-stand : goal.returns-then-not-stands_in-clause-stand
returns-then-not-stands_in-clause-stand g c = grind (arith, next_left, true≢false)

pub loop-overview-preserved : goal.loop-overview-preserved
loop-overview-preserved g c = grind (arith, next_left)

pub returns-clause-stand : goal.returns-clause-stand
returns-clause-stand g c = grind (arith, none_left)
