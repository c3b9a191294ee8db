use Rattle.std.{proofs.{Common.{rules, sym, ◌∙◌, ◌∷◌, [], ap}, lemmas.List.{nil_from_length}}, specs.{FinMap.{entries}, Rc.{rc_str_bytes}}}
use Rattle.std.specs.Slice.Iter.{iter_rest}
use Rattle.nntp_content.proofs.ShownNumbers.{each_entry}
use Rattle.nntp_store.{specs.Text.{with_line_ends, number_line}, proofs.Written.{text_of_numbers, with_line_ends-cons}}
use Rattle.nntp_store.proofs.text.write.put_numbers.Goals as goal

pub returns : goal.returns
returns g c =
    let all = ap entries (sym c.as_slice.ensures.shown) ∙ each_entry c.as_slice.result.now c.as_slice.ensures.ascending in
    let p = c.put_each.ensures (λ s. text_of_numbers (iter_rest s)) (λ x. with_line_ends (number_line x.now.0 (rc_str_bytes x.now.1) ∷ [])) (record {
      none = λ s t e. rw (nil_from_length _ e.0);
      some = λ s t x e. rw e (with_line_ends-cons (number_line _ _) _);
      puts = λ x old new r next f. (search rules, search rules);
    }) in
    rw (c.iter.ensures.rest, ← all) at p
