use Rattle.std.{proofs.{Common.{◌∙◌}, lemmas.Result.{err_from_is_err_and}}, specs.Rc.{rc_str_bytes}}
use Rattle.nntp_article.specs.Session.Spool.{Text}
use Rattle.nntp_witness.proofs.NumberSteps.{invented_refused, invented_is_id, invented_makes}
use Rattle.nntp_witness.proofs.maker.SpoolMaker.add_invented.Goals as goal

pub returns-in_err-number_sharing : goal.returns-in_err-number_sharing
returns-in_err-number_sharing g c said G before behind left stands w l =
    let p = err_from_is_err_and c.from_residual.result c.from_residual.ensures.1 in
    rw p.1 (p.2 ∙ invented_refused c.args.facts.now.limit said G before w.given w.is_spool c.args.name.now behind
    c.args.number left c.args.self.now.builder c.args.self.now.next l c.in-Ok.invented.number
    (c.in-Ok.ensures.first said stands) c.in-Ok.ensures.small (rc_str_bytes c.in-Ok.invented.id) c.in-Ok.ensures.is
    c.in_err-number_sharing.field-0.0 c.number_sharing.new.self c.in_err-number_sharing.ensures)

pub returns-in_err-head : goal.returns-in_err-head
returns-in_err-head g c said G before behind left stands w l =
    let p = err_from_is_err_and c.from_residual-in_err-head.result c.from_residual-in_err-head.ensures.1 in
    rw p.1 (p.2 ∙ c.in_err-head.ensures (invented_is_id c.args.facts.now.limit said G before w.given w.is_spool c.args.name.now behind
    c.args.number left c.args.self.now.builder c.args.self.now.next l c.in-Ok.invented.number
    (c.in-Ok.ensures.first said stands) c.in-Ok.ensures.small (rc_str_bytes c.in-Ok.invented.id) c.in-Ok.ensures.is))

pub returns : goal.returns
returns g c said G before behind left stands w l =
    let id = rc_str_bytes c.in-Ok.invented.id in
    let first = c.in-Ok.ensures.first said stands in
    let is_id = invented_is_id c.args.facts.now.limit said G before w.given w.is_spool c.args.name.now behind
    c.args.number left c.args.self.now.builder c.args.self.now.next l c.in-Ok.invented.number first c.in-Ok.ensures.small id c.in-Ok.ensures.is in
    let given : Text = record { head = c.in_ok-head.head.value; body = c.args.self.now.no_lines.value } in
    invented_makes c.args.facts.now.limit said G before w.given w.is_spool c.args.name.now behind
    c.args.number left c.args.self.now.builder c.args.self.now.next l c.in-Ok.invented.number first c.in-Ok.ensures.small id c.in-Ok.ensures.is
    given (λ i. record { head = c.in_ok-head.ensures is_id i; body = c.args.self.now.is_empty i }) _ c.article_sharing.result c.number_sharing.new.self c.article_sharing.new.self
    c.in_ok-number_sharing.ensures c.article_sharing.ensures
