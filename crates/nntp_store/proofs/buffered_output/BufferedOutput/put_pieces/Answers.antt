use Rattle.std.{proofs.{Common.{rules, ap}, lemmas.List.{nil_from_length}}, specs.{List.{flat_map}, Slice.Iter.{iter_rest}}}
use Rattle.nntp_store.proofs.buffered_output.BufferedOutput.put_pieces.Goals as goal

pub returns : goal.returns
returns g c =
    let p = c.put_each.ensures (λ s. flat_map (λ piece. piece.now) (iter_rest s)) (λ x. x.now.now) (record {
      none = λ s t e. ap (flat_map (λ piece. piece.now)) (nil_from_length _ e.0);
      some = λ s t x e. ap (flat_map (λ piece. piece.now)) e;
      puts = λ x old new r next f. (search rules, search rules);
    }) in
    rw c.iter.ensures.rest at p
