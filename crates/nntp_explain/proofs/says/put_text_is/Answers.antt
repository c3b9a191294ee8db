use Rattle.std.{proofs.{Common.{arith, ◌∙◌, ap, refl, sym}, lemmas.{Grind.{common_steps}, Result.{on_ok_weaker}}}, specs.Prelude.{codes, option_map}}
use Rattle.nntp_said.specs.Facts.{TextIs}
use Rattle.nntp_article.specs.Session.Machine.{is_same}
use Rattle.nntp_facts.specs.Inner.PointView.{point_of}
use Rattle.nntp_explain.proofs.SaidLines.{told_article}
use Rattle.nntp_explain.proofs.says.put_text_is.Goals as goal

pub returns-in-Article : goal.returns-in-Article
returns-in-Article g c =
    on_ok_weaker c.put_escaped_line.result
    (told_article c.args.about.now.line (point_of c.args.about.now.point) c.in-Article.other.now (TextIs c.args.what c.args.id.now (option_map (λ b. b.now) c.args.block))
    c.args.text.now.items (codes "says article ") c.args.id.now c.put_escaped_line.new.text.items
    (is_same c.args.id.now c.in-Article.other.now) (ap point_of c.in-Article.is) refl (sym c.is_same.ensures ∙ c.if-is_same.true)) c.put_escaped_line.ensures

pub returns-in-FieldOf : goal.returns-in-FieldOf
returns-in-FieldOf g c = grind (arith, common_steps)

pub returns-in-BodyOf : goal.returns-in-BodyOf
returns-in-BodyOf g c = grind (arith, common_steps)

pub returns-in-HeadOf : goal.returns-in-HeadOf
returns-in-HeadOf g c = grind (arith, common_steps)
