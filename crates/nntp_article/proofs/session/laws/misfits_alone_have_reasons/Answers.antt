use Rattle.nntp_article.proofs.SessionLemmas.Misfits.{fits_without_reason}
use Rattle.nntp_article.proofs.session.laws.misfits_alone_have_reasons.Goals as goal

pub returns : goal.returns
returns c = fits_without_reason
