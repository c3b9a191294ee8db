use Rattle.nntp_wire.proofs.SearchLemmas.{frame_searched-more}
use Rattle.nntp_wire.proofs.laws.frame_search_stays.Goals as goal

pub returns : goal.returns
returns c = frame_searched-more
