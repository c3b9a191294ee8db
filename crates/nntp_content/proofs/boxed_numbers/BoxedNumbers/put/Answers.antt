use Rattle.std.{proofs.{Common.{arith, ap, sym, ◌∙◌}, lemmas.Result.{err_from_is_err_and}}, specs.Prelude.{unwrap_or, option_map, box_value}}
use Rattle.std.specs.Rc.{rc_str_bytes}
use Rattle.nntp_article.specs.Session.Spool.{Numbers}
use Rattle.nntp_content.{specs.Inner.Numbers.{with_number}, proofs.NumberIds.{none_has}}
use Rattle.std.specs.FinMap as map
use Rattle.nntp_content.proofs.boxed_numbers.BoxedNumbers.put.Goals as goal

pub returns-in_err-new-clause-absent : goal.returns-in_err-new-clause-absent
returns-in_err-new-clause-absent g c = grind (arith, err_from_is_err_and, none_has)

pub returns-clause-ok : goal.returns-clause-ok
returns-clause-ok g c =
    let none = c.new-numbers.ensures ∙ ap (λ n. unwrap_or (option_map box_value n) map.empty) (sym c.in_default.is) ∙ c.self.view_is in
    c.in_ok-new.ensures.ok ∙ c.in_ok-added.ensures.ok ∙ ap (λ (N : Numbers). with_number N c.args.number (rc_str_bytes c.args.id.now)) none
