use Rattle.std.{proofs.Common.{[], ◌∷◌, ◌++◌}, specs.{FinMap.{entries}, List.{flat_map}, Prelude.{codes}}}
use Rattle.nntp_store.{specs.Text.{article_lines, group_lines}, proofs.Written.{Puts-on, Puts-until, with_line_ends-append}}
use Rattle.nntp_store.proofs.text.write.put_content.Goals as goal

pub returns-in_err-put_all_groups : goal.returns-in_err-put_all_groups
returns-in_err-put_all_groups g c =
    let S = c.args.content.now in
    let parts = with_line_ends-append (flat_map group_lines (entries S.groups)) (flat_map article_lines (entries S.articles) ++ codes "end" ∷ []) in
    Puts-until _ _ _ _ _ _ parts _ c.in_err-put_all_groups.ensures _ c.from_residual.ensures.0

pub returns-in_err-put_all_articles : goal.returns-in_err-put_all_articles
returns-in_err-put_all_articles g c =
    let S = c.args.content.now in
    let parts = with_line_ends-append (flat_map group_lines (entries S.groups)) (flat_map article_lines (entries S.articles) ++ codes "end" ∷ []) in
    let r = c.from_residual-in_err-put_all_articles in
    let articles = Puts-until _ _ _ _ _ _ (with_line_ends-append (flat_map article_lines (entries S.articles)) (codes "end" ∷ [])) _ c.in_err-put_all_articles.ensures r.result r.ensures.0 in
    Puts-on _ _ _ _ _ _ parts _ c.in_ok-put_all_groups.ensures _ _ articles

pub returns : goal.returns
returns g c =
    let S = c.args.content.now in
    let parts = with_line_ends-append (flat_map group_lines (entries S.groups)) (flat_map article_lines (entries S.articles) ++ codes "end" ∷ []) in
    let articles = Puts-on _ _ _ _ _ _ (with_line_ends-append (flat_map article_lines (entries S.articles)) (codes "end" ∷ [])) _ c.in_ok-put_all_articles.ensures _ _ c.put.ensures in
    Puts-on _ _ _ _ _ _ parts _ c.in_ok-put_all_groups.ensures _ _ articles
