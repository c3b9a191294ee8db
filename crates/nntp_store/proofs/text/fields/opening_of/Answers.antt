use Rattle.std.proofs.Common.{refl}
use Rattle.nntp_store.proofs.SplitLines.{first_segment}
use Rattle.nntp_store.proofs.text.fields.opening_of.Goals as goal

pub returns-in-Some-rest-3 : goal.returns-in-Some-rest-3
returns-in-Some-rest-3 c =
    let fifth = first_segment 32 c.in-Some-rest-3.field-0.now in
    rw (c.cut.ensures, c.in-Some.is, c.cut-2.ensures, c.in-Some-rest.is, c.cut-3.ensures, c.in-Some-rest-2.is, c.cut-4.ensures, c.in-Some-rest-3.is, fifth.2) refl
