use Rattle.std.proofs.Common.{rules, ◌∷◌, [], ◌++◌}
use Rattle.nntp_store.specs.Text.{with_line_ends, barred}
use Rattle.nntp_store.proofs.text.write.put_barred_lines.Goals as goal

pub returns : goal.returns
returns g c =
    let p = c.put_each.ensures (λ s. with_line_ends (barred s)) (λ x. 124 ∷ x.now ++ 10 ∷ []) (record {
      none = λ s t e. rw e.0;
      some = λ s t x e. rw e;
      puts = λ x old new r next f. (search rules, search rules);
    }) in
    rw c.lines.ensures.lines at p
