use Rattle.nntp_article.proofs.SessionLemmas.LeastNumber.{first_of_map}
use Rattle.nntp_article.proofs.session.laws.first_is_least.Goals as goal

pub returns : goal.returns
returns c = λ N. first_of_map N
