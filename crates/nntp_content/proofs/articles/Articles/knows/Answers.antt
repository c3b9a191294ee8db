use Rattle.std.{proofs.Common.{is_some, option_map, ap, sym, ◌∙◌}, specs.{Ordering.{nat_cmp}, Cmp.Lexicographic.{slice_cmp, nat_list_cmp_total}}}
use Rattle.std.specs.Rc.{rc_str_bytes}
use Rattle.nntp_content.{specs.Inner.{ArticleLines.{text_stored}, ArticlesView.{entries_held}}, proofs.ShownMaps.{no_key}}
use Rattle.nntp_article.proofs.ShownMaps.{get-shown}
use Rattle.std.specs.FinMap as map
use Rattle.nntp_content.proofs.articles.Articles.knows.Goals as goal

pub returns-in-Err : goal.returns-in-Err
returns-in-Err g c =
    let word = c.args.word.now in
    let entries = entries_held c.self.inside.held in
    sym (ap is_some (ap (λ m. map.get m word) (sym c.self.view_is)
    ∙ get-shown (slice_cmp nat_cmp) rc_str_bytes text_stored nat_list_cmp_total entries word
    ∙ ap (option_map text_stored) (no_key word c.in-Err.ensures.cases.0 entries)))
