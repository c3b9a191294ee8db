use Rattle.std.{proofs.{Common.{rules, ◌∙◌}, lemmas.Iterator.{YieldsList-from_slice, Search.{any_from_yields_List}}}, specs.Prelude.{bytes_eq}}
use Rattle.std.specs.Rc.{rc_str_bytes}
use borrow.Author.Tests.{tests}
use Rattle.nntp_content.proofs.NumberIds.{listed_id}
use Rattle.nntp_content.proofs.numbers.is_among.Goals as goal

pub returns : goal.returns
returns g c =
    let ids = c.args.ids.now in
    let id = c.args.id.now in
    any_from_yields_List (λ e. bytes_eq (rc_str_bytes e.1) id) _ _ c.any.result c.any.ensures.ran (YieldsList-from_slice ids cc) (λ x b q k. search (rules, tests)) ∙ listed_id ids id c.requires
