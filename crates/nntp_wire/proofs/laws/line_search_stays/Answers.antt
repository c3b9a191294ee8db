use Rattle.nntp_wire.proofs.SearchLemmas.{line_searched-more}
use Rattle.nntp_wire.proofs.laws.line_search_stays.Goals as goal

pub returns : goal.returns
returns c = line_searched-more
