use Rattle.std.proofs.{Common.{arith, Result, Ok, Err, true, not, inl, inr, sym, ap}, lemmas.{Bool.{not-true}, List.{nil_from_length}}}
use Rattle.std.{proofs.lemmas.Result.{err_from_is_err_and}, specs.{Prelude.{OnErr}, Rc.{rc_str_bytes}}}
use Rattle.nntp_content.{specs.{Inner.Numbers.{AreIdsOf, numbers_shown}, Numbers.{has_id}}, proofs.NumberIds.{known_are, is_added, known_with}}
use Rattle.nntp_content.proofs.numbers.learn.{Given.{Over}, Goals.{After-insert}}
use Rattle.nntp_content.proofs.numbers.learn.Goals as goal

-- what is known then are the ids of the numbers
ids_known : (g : Over) (c : After-insert g) → AreIdsOf c.if-is_empty.known.keys (numbers_shown c.args.ids.now)
ids_known g c = grind (arith, known_are)

of_any : {T E P : Type 0} (r : Result T E) → P → OnErr r P
of_any (Ok x) p = tt
of_any (Err e) p = p

pub returns-in_err-insert-clause-absent : goal.returns-in_err-insert-clause-absent
returns-in_err-insert-clause-absent g c =
    let N = numbers_shown c.args.ids.now in
    let are = ids_known g (goal.at.returns-in_err-insert-clause-absent g c).After-insert in
    let p = err_from_is_err_and c.from_residual-in_err-insert.result c.from_residual-in_err-insert.ensures.1 in
    rw p.1 (not-true (has_id N (rc_str_bytes c.args.id)) (sym (is_added c.if-is_empty.known.keys N c.args.id true are (sym (ap not c.in_err-insert.ensures.absent)))))

pub returns-in_err-known-clause-err : goal.returns-in_err-known-clause-err
returns-in_err-known-clause-err g c = of_any c.from_residual.result c.requires.1

pub returns-clause-added : goal.returns-clause-added
returns-clause-added g c =
    let N = numbers_shown c.args.ids.now in
    let are = ids_known g (goal.at.returns-clause-added g c).After-insert in
    is_added c.if-is_empty.known.keys N c.args.id c.in_ok-insert.field-0 are c.in_ok-insert.ensures.added

pub returns-clause-ok : goal.returns-clause-ok
returns-clause-ok g c n absent =
    let N = numbers_shown c.args.ids.now in
    let are = ids_known g (goal.at.returns-clause-ok g c).After-insert in
    let added = c.in_ok-insert.field-0 in
    inr (known_with c.if-is_empty.known.keys c.insert.new.self.keys N n c.args.id added are absent (is_added c.if-is_empty.known.keys N c.args.id added are c.in_ok-insert.ensures.added)
    c.in_ok-insert.ensures.keys (λ old. grind arith))

pub returns-then-ids-lt-FEW-clause-ok : goal.returns-then-ids-lt-FEW-clause-ok
returns-then-ids-lt-FEW-clause-ok g c n absent = inl (nil_from_length _ (c.is_empty.ensures.0 c.if-is_empty.true))

pub returns-then-is_among-clause-ok : goal.returns-then-is_among-clause-ok
returns-then-is_among-clause-ok g c n absent = inl (nil_from_length _ (c.is_empty.ensures.0 c.if-is_empty.true))
