use Rattle.nntp_explain.proofs.ReadSessions.{alone_of_all, all_of_alone}
use Rattle.nntp_explain.proofs.laws.one_session_is_explained_alone.Goals as goal

pub returns : goal.returns
returns c = record { alone = alone_of_all; of_all = all_of_alone }
