use Rattle.std.proofs.{Common.{arith, sym, ◌∙◌, map}, lemmas.Bool.{false≢true}}
use Rattle.nntp_wire.{specs.Wildmat.{item_of}, proofs.PatternLemmas.{empty-iff, utf8-cons, utf8-nil, one-other}}
use Rattle.nntp_wire.proofs.pattern.first_step.Goals.{else-item-ne63-via-then-item-ne63+else-item-c, else-item-ne63-via-else-item-ne63}
use Rattle.nntp_wire.proofs.pattern.first_step.Goals as goal

pub returns-then-is_empty-clause-takes : goal.returns-then-is_empty-clause-takes
returns-then-is_empty-clause-takes c = λ ps ts p q.
    (utf8-nil ps c.args.items.now c.in_default.ensures.none p, (empty-iff ts c.args.text.now c.is_empty.result q c.is_empty.ensures).0 c.if-is_empty.true)

pub returns-else-is_empty-clause-takes : goal.returns-else-is_empty-clause-takes
returns-else-is_empty-clause-takes c = λ ps ts p q m.
    let n = utf8-nil ps c.args.items.now c.in_default.ensures.none p in
    false≢true (sym c.if-is_empty.false ∙ (empty-iff ts c.args.text.now c.is_empty.result q c.is_empty.ensures).1 (rw n at m))

pub returns-then-item-eq42-clause-takes : goal.returns-then-item-eq42-clause-takes
returns-then-item-eq42-clause-takes c = λ ps ts p q.
    let found = c.in-Some.ensures.found in
    let d = utf8-cons ps c.args.items.now c.in-Some.rest.now c.in-Some.item found.0 found.1 p in
    (d.0, d.2, rw (sym c.if-item-eq42.true) d.1)

pub returns-in_default-first_char-clause-takes : goal.returns-in_default-first_char-clause-takes
returns-in_default-first_char-clause-takes c = λ ps ts p q m.
    let found = c.in-Some.ensures.found in
    let d = utf8-cons ps c.args.items.now c.in-Some.rest.now c.in-Some.item found.0 found.1 p in
    grind arith

pub returns-then-item-c-clause-takes : goal.returns-then-item-c-clause-takes
returns-then-item-c-clause-takes c = λ ps ts p q m.
    let found = c.in-Some.ensures.found in
    let d = utf8-cons ps c.args.items.now c.in-Some.rest.now c.in-Some.item found.0 found.1 p in
    let also = c.in-Some-first_char.ensures.found in
    let e = utf8-cons ts c.args.text.now c.in-Some-first_char.others.now c.in-Some-first_char.c also.0 also.1 q in
    one-other c.in-Some.item c.in-Some-first_char.c (map item_of d.0) e.0 c.if-item-eq42.false c.if-item-ne63.true c.if-item-c.true (rw (d.1, e.1) at m)

pub returns-clause-takes : goal.returns-clause-takes
returns-clause-takes c = λ ps ts p q.
    let found = c.in-Some.ensures.found in
    let d = utf8-cons ps c.args.items.now c.in-Some.rest.now c.in-Some.item found.0 found.1 p in
    let also = c.in-Some-first_char.ensures.found in
    let e = utf8-cons ts c.args.text.now c.in-Some-first_char.others.now c.in-Some-first_char.c also.0 also.1 q in
    grind arith
