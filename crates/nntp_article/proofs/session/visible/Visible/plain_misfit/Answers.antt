use Rattle.std.proofs.Common.{rules}
use Rattle.nntp_article.proofs.SessionLemmas.Misfits.{plain_alone}
use Rattle.nntp_article.proofs.session.visible.Visible.plain_misfit.Goals as goal

pub returns-then-fits_plain : goal.returns-then-fits_plain
returns-then-fits_plain g c = search (rules, plain_alone)

pub returns : goal.returns
returns g c = search (rules, plain_alone)
