use Rattle.std.{proofs.{Common.{rules}, lemmas.Fn.{always_returns_same}}, specs.{Ordering.{nat_cmp}, Cmp.Lexicographic.{slice_cmp, nat_list_cmp_total}}}
use Rattle.std.specs.Rc.{rc_str_bytes}
use borrow.Author.Tests.{tests}
use Rattle.nntp_content.{specs.Inner.ArticleLines.{text_stored}, proofs.{SearchedEntries.{found_at, none_at, searchable}, ShownMaps.{octet_keys}}}
use Rattle.nntp_content.proofs.articles.article_among.Goals as goal

pub returns-in-Ok : goal.returns-in-Ok
returns-in-Ok g c =
    let e = c.index-articles-at.result in
    found_at (slice_cmp nat_cmp) rc_str_bytes text_stored nat_list_cmp_total octet_keys c.args.articles.now c.args.id.now c.in-Ok.at e c.requires c.in-Ok.ensures.bound
    (c.in-Ok.ensures.position (λ e. slice_cmp nat_cmp (rc_str_bytes e.0) c.args.id.now) (always_returns_same _ _ _ (λ a r f k. search (rules, tests))) e)

pub returns-in-Err : goal.returns-in-Err
returns-in-Err g c =
    none_at (slice_cmp nat_cmp) rc_str_bytes text_stored nat_list_cmp_total octet_keys c.args.articles.now c.args.id.now c.in-Err.field-0
    (c.in-Err.ensures.position (λ e. slice_cmp nat_cmp (rc_str_bytes e.0) c.args.id.now) (always_returns_same _ _ _ (λ a r f k. search (rules, tests)))
    (searchable (slice_cmp nat_cmp) rc_str_bytes text_stored nat_list_cmp_total octet_keys c.args.articles.now c.args.id.now c.requires))
