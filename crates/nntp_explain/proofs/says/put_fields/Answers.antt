use Rattle.std.{proofs.{Common.{◌∙◌, ap, refl, sym}, lemmas.Result.{on_ok_weaker}}, specs.Prelude.{codes}}
use Rattle.nntp_wire.specs.Listing.{overviews_of}
use Rattle.nntp_said.specs.Facts.{FieldsAre}
use Rattle.nntp_theory.specs.Given.{has_overview_of}
use Rattle.nntp_facts.specs.Inner.PointView.{point_of}
use Rattle.nntp_explain.proofs.SaidLines.{told_article}
use Rattle.nntp_explain.proofs.says.put_fields.Goals as goal

pub returns-in-Article : goal.returns-in-Article
returns-in-Article g c =
    on_ok_weaker c.put_escaped_line.result
    (told_article c.args.about.now.line (point_of c.args.about.now.point) c.in-Article.id.now (FieldsAre (overviews_of c.args.block.now))
    c.args.text.now.items (codes "says article ") c.in-Article.id.now c.put_escaped_line.new.text.items
    (has_overview_of c.in-Article.id.now (overviews_of c.args.block.now)) (ap point_of c.in-Article.is) refl (sym c.has_overview_of.ensures ∙ c.if-has_overview_of.true)) c.put_escaped_line.ensures
