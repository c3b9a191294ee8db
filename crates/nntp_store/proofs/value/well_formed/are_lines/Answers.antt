use Rattle.std.proofs.{Common.{sym, ◌∙◌, rules}, lemmas.Iterator.{YieldsList-from_slice, Search.{all_from_yields_List}}}
use borrow.Author.Tests.{tests}
use Rattle.nntp_article.{proofs.ShownMaps.{list_all-map}, specs.Session.Spool.{is_line}}
use Rattle.nntp_store.proofs.value.well_formed.are_lines.Goals as goal

pub returns : goal.returns
returns g c =
    let all = all_from_yields_List (λ line. is_line line.items) _ _ c.all.result c.all.ensures.ran (YieldsList-from_slice c.args.lines.now cc) (λ x b q k. search (rules, tests)) in
    all ∙ sym (list_all-map is_line (λ line. line.items) c.args.lines.now)
