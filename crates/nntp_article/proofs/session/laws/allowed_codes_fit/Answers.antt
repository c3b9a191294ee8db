use Rattle.nntp_article.proofs.SessionLemmas.AllowedCodes.{allowed_fits}
use Rattle.nntp_article.proofs.session.laws.allowed_codes_fit.Goals as goal

pub returns : goal.returns
returns c = allowed_fits
