use Rattle.std.proofs.{Common.{arith}, lemmas.Bool.Decides.{nat_tests}}
use Rattle.nntp_wire.specs.Inner.{View.{asked}, AnswerView.{response}}
use Rattle.nntp_article.proofs.SessionLemmas.Misfits.{fits_by_reason}
use Rattle.nntp_article.proofs.session.visible.Visible.fits.Goals as goal

pub returns : goal.returns
returns g c =
    let why = fits_by_reason c.args.profile c.args.self.now (asked c.args.prompt.now) (response c.args.answer.now) c.in_ok-why.why c.in_ok-why.ensures in
    let none = c.is_none.ensures in
    grind (arith, nat_tests)
