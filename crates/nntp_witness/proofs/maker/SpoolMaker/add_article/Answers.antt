use Rattle.std.{proofs.{Common.{◌∙◌}, lemmas.Result.{err_from_is_err_and}}, specs.Rc.{rc_str_bytes}}
use Rattle.nntp_article.specs.Session.Spool.{Text}
use Rattle.nntp_witness.proofs.ArticleSteps.{article_added}
use Rattle.nntp_witness.proofs.maker.SpoolMaker.add_article.Goals as goal

pub returns-in_err-head : goal.returns-in_err-head
returns-in_err-head g c limit said G left witness articles =
    let p = err_from_is_err_and c.from_residual.result c.from_residual.ensures.1 in
    rw p.1 (p.2 ∙ c.in_err-head.ensures (witness.is_spool.ids c.args.shown.now.id articles.of_spool.0))

pub returns : goal.returns
returns g c limit said G left witness articles =
    let given : Text = record { head = c.in_ok-head.head.value; body = c.given_body-body.result.now.value } in
    article_added limit said G c.args.shown.now left c.args.self.now.builder c.article_sharing.new.self (rc_str_bytes c.id.result.now)
    given c.article_sharing.result witness articles c.id.ensures
    (λ i. record { head = c.in_ok-head.ensures (witness.is_spool.ids c.args.shown.now.id articles.of_spool.0) i; body = c.given_body-body.ensures i })
    c.article_sharing.ensures
