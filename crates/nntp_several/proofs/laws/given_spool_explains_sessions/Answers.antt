use Rattle.nntp_several.proofs.OneOutcomeOfAll.{given_explains_all}
use Rattle.nntp_several.proofs.laws.given_spool_explains_sessions.Goals as goal

pub returns : goal.returns
returns c = given_explains_all
