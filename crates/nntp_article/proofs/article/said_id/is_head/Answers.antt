use Rattle.std.{proofs.{Common.{refl, sym, ◌∙◌, ap, arith}, lemmas.Grind.{common_steps}}, specs.Prelude.{◌&&◌}}
use Rattle.nntp_article.{specs.Article.Parts.{begins_header}, proofs.ArticleLemmas.HeadLemmas.{is_head-parts}}
use Rattle.nntp_wire.specs.Inner.Held.{held}
use Rattle.nntp_article.proofs.article.said_id.is_head.Goals as goal

pub returns-then-begins_header : goal.returns-then-begins_header
returns-then-begins_header g c =
    ap (λ b. b && c.are_head_lines.result) (sym c.if-begins_header.true)
    ∙ is_head-parts (held c.args.lines.now) (held c.args.lines.now) c.in-Some.first.now.items (held c.in-Some.more.now) _ _
    (ap held c.in-Some.ensures.cases.0) refl (c.begins_header.ensures ∙ ap begins_header c.deref.ensures.value) c.are_head_lines.ensures

pub returns-in_default : goal.returns-in_default
returns-in_default c = grind (arith, common_steps)
