use Rattle.std.proofs.Common.{◌++◌, length, ap, ◌∙◌}
use Rattle.nntp_store.{specs.Text.{article_line, barred}, proofs.Written.{Puts-on, Puts-until, with_line_ends-cons, with_line_ends-append}}
use Rattle.nntp_store.proofs.text.write.put_article.Goals as goal

pub returns-in_err-put_article_line : goal.returns-in_err-put_article_line
returns-in_err-put_article_line g c =
    let a = c.args.article.now in
    let heads = c.line_count.ensures ∙ ap length (c.as_block-head.ensures.same ∙ c.as_ref.ensures) in
    let bodies = c.line_count-2.ensures ∙ ap length (c.as_block-body.ensures.same ∙ c.as_ref-2.ensures) in
    let line = rw (heads, bodies) at c.in_err-put_article_line.ensures in
    Puts-until _ _ _ _ _ _ (with_line_ends-cons (article_line c.args.id.now _ _) (barred a.head.value ++ barred a.body.value)) _ line _ c.from_residual.ensures.0

pub returns-in_err-put_barred_lines : goal.returns-in_err-put_barred_lines
returns-in_err-put_barred_lines g c =
    let a = c.args.article.now in
    let head = c.as_block-head.ensures.same ∙ c.as_ref.ensures in
    let bodies = c.line_count-2.ensures ∙ ap length (c.as_block-body.ensures.same ∙ c.as_ref-2.ensures) in
    let line = rw (c.line_count.ensures ∙ ap length head, bodies) at c.in_ok-put_article_line.ensures in
    let r = c.from_residual-in_err-put_barred_lines in
    let part = Puts-until _ _ _ _ _ _ (with_line_ends-append (barred a.head.value) (barred a.body.value)) _ (rw head at c.in_err-put_barred_lines.ensures) r.result r.ensures.0 in
    Puts-on _ _ _ _ _ _ (with_line_ends-cons (article_line c.args.id.now _ _) (barred a.head.value ++ barred a.body.value)) _ line _ _ part

pub returns : goal.returns
returns g c =
    let a = c.args.article.now in
    let head = c.as_block-head.ensures.same ∙ c.as_ref.ensures in
    let body = c.as_block-body.ensures.same ∙ c.as_ref-2.ensures in
    let line = rw (c.line_count.ensures ∙ ap length head, c.line_count-2.ensures ∙ ap length body) at c.in_ok-put_article_line.ensures in
    let both = Puts-on _ _ _ _ _ _ (with_line_ends-append (barred a.head.value) (barred a.body.value)) _ (rw head at c.in_ok-put_barred_lines.ensures) _ _ (rw body at c.put_barred_lines-2.ensures) in
    Puts-on _ _ _ _ _ _ (with_line_ends-cons (article_line c.args.id.now _ _) (barred a.head.value ++ barred a.body.value)) _ line _ _ both
