use Rattle.std.{proofs.Common.{map as list_map}, specs.FinMap.{entries}}
use Rattle.nntp_store.{specs.Text.{group_line, number_line}, proofs.Written.{Puts-on, Puts-until, with_line_ends-cons}}
use Rattle.nntp_store.proofs.text.write.put_group.Goals as goal

pub returns-in_err-put_group_line : goal.returns-in_err-put_group_line
returns-in_err-put_group_line g c =
    let numbers = list_map (λ e. number_line e.0 e.1) (entries c.args.numbers.now) in
    let line = rw c.len.ensures at c.in_err-put_group_line.ensures in
    Puts-until _ _ _ _ _ _ (with_line_ends-cons (group_line c.args.name.now _) numbers) _ line _ c.from_residual.ensures.0

pub returns : goal.returns
returns g c =
    let numbers = list_map (λ e. number_line e.0 e.1) (entries c.args.numbers.now) in
    let line = rw c.len.ensures at c.in_ok-put_group_line.ensures in
    Puts-on _ _ _ _ _ _ (with_line_ends-cons (group_line c.args.name.now _) numbers) _ line _ _ c.put_numbers.ensures
