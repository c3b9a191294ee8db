use Rattle.std.{proofs.{Common.{arith, ◌∙◌, ap, sym}, lemmas.{Grind.{common_steps}, Result.{on_ok_weaker}}}, specs.Prelude.{codes}}
use Rattle.nntp_facts.specs.Inner.PointView.{point_of}
use Rattle.nntp_explain.{specs.Reasons.{about_line, octets_line}, proofs.SaidLines.{line_told}}
use Rattle.nntp_explain.proofs.reasons.put_about.Goals as goal

pub returns-in-Group : goal.returns-in-Group
returns-in-Group g c =
    on_ok_weaker c.put_escaped_line-in-Group.result
    (λ put. line_told c.args.text.now.items (codes "about group ") c.as_slice.result.now (about_line (point_of c.args.point.now)) c.put_escaped_line-in-Group.new.text.items put
    (ap (octets_line (codes "about group ")) c.as_slice.ensures.value ∙ ap (λ p. about_line (point_of p)) (sym c.in-Group.is)))
    c.put_escaped_line-in-Group.ensures

pub returns-in-Number : goal.returns-in-Number
returns-in-Number g c = rw c.in-Number.is c.put_named_number.ensures

pub returns-in-PlaceOf : goal.returns-in-PlaceOf
returns-in-PlaceOf g c = rw c.in-PlaceOf.is c.put_named_id.ensures

pub returns-in-Article : goal.returns-in-Article
returns-in-Article g c =
    on_ok_weaker c.put_escaped_line-in-Article.result
    (λ put. line_told c.args.text.now.items (codes "about article ") c.in-Article.id.now (about_line (point_of c.args.point.now)) c.put_escaped_line-in-Article.new.text.items put
    (ap (λ p. about_line (point_of p)) (sym c.in-Article.is)))
    c.put_escaped_line-in-Article.ensures

pub returns-in-First : goal.returns-in-First
returns-in-First g c =
    on_ok_weaker c.put_escaped_line-in-First.result
    (λ put. line_told c.args.text.now.items (codes "about first ") c.in-First.name.now (about_line (point_of c.args.point.now)) c.put_escaped_line-in-First.new.text.items put
    (ap (λ p. about_line (point_of p)) (sym c.in-First.is)))
    c.put_escaped_line-in-First.ensures

pub returns-in-Count : goal.returns-in-Count
returns-in-Count g c =
    on_ok_weaker c.put_escaped_line-in-Count.result
    (λ put. line_told c.args.text.now.items (codes "about count ") c.in-Count.name.now (about_line (point_of c.args.point.now)) c.put_escaped_line-in-Count.new.text.items put
    (ap (λ p. about_line (point_of p)) (sym c.in-Count.is)))
    c.put_escaped_line-in-Count.ensures

pub returns-in-BodyOf : goal.returns-in-BodyOf
returns-in-BodyOf g c = grind (arith, common_steps)

pub returns-in-HeadOf : goal.returns-in-HeadOf
returns-in-HeadOf g c = grind (arith, common_steps)

pub returns-in-Step : goal.returns-in-Step
returns-in-Step g c = grind (arith, common_steps)
