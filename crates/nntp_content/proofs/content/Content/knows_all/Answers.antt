use Rattle.std.proofs.{Common.{length, is_some, ap, sym, ◌∙◌, arith}, lemmas.{Bool.{true≢false}, Iterator.{YieldsList-from_slice}}}
use Rattle.std.{proofs.lemmas.Iterator.{Search.{all_from_yields_List}, Consumers.{YieldsList-from_rest}}, specs.Rc.{rc_str_bytes}}
use Rattle.nntp_article.specs.Article.Parts.{Id}
use Rattle.nntp_content.{specs.Content.{all_known}, proofs.NumberIds.{all_ids, all_listed, known_are}}
use Rattle.std.specs.FinMap as map
use Rattle.nntp_content.proofs.content.Content.knows_all.Goals as goal

pub returns-then-is_empty : goal.returns-then-is_empty
returns-then-is_empty g c =
    let ids = c.numbers.inside.ids.items in
    let known = λ (id : Id). is_some (map.get c.args.self.now.articles id) in
    let all = all_from_yields_List (λ e. known (rc_str_bytes e.1)) _ _ c.all.result c.all.ensures.ran (YieldsList-from_slice ids cc) (λ x b q k. grind arith) in
    all ∙ all_listed known ids c.numbers.invariant.0 ∙ ap (all_known c.args.self.now) (c.numbers.view_is ∙ c.or-numbers.ensures)

pub returns-else-is_empty : goal.returns-else-is_empty
returns-else-is_empty g c =
    let ids = c.numbers.inside.known.keys in
    let known = λ (id : Id). is_some (map.get c.args.self.now.articles id) in
    let all = all_from_yields_List (λ id. known (rc_str_bytes id)) _ _ c.all-else-is_empty.result c.all-else-is_empty.ensures.ran
    (YieldsList-from_rest ids c.iter-else-is_empty.ensures.rest) (λ x b q k. grind arith) in
    let are = known_are ids _ c.numbers.invariant.1 (λ none. true≢false (sym (c.is_empty.ensures.1 (ap length none)) ∙ c.if-is_empty.false)) in
    all ∙ all_ids known ids _ are ∙ ap (all_known c.args.self.now) (c.numbers.view_is ∙ c.or-numbers.ensures)
