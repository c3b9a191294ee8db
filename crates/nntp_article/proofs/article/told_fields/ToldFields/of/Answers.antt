use Rattle.std.proofs.Common.{◌++◌, ◌∙◌, ap}
use Rattle.nntp_article.{specs.Article.Fields.{field_lines, fields_of_head}, proofs.ArticleLemmas.FieldLemmas.{lines_tell, lines_held}}
use Rattle.nntp_article.proofs.article.told_fields.ToldFields.of.Goals as goal

pub invariant_of-result : goal.invariant_of-result
invariant_of-result g c =
    let pushed = c.as_block.ensures.same ∙ c.in_ok-push_fields.ensures ∙ ap (λ ls. ls ++ field_lines c.args.told) c.in_ok-head.ensures in
    lines_held c.args.told c.requires c.in_ok-lines.lines (c.in_ok-lines.ensures ∙ pushed)

pub returns : goal.returns
returns g c =
    let pushed = c.as_block.ensures.same ∙ c.in_ok-push_fields.ensures ∙ ap (λ ls. ls ++ field_lines c.args.told) c.in_ok-head.ensures in
    ap fields_of_head (c.in_ok-lines.ensures ∙ pushed) ∙ lines_tell c.args.told c.requires
