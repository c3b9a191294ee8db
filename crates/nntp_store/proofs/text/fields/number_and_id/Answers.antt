use Rattle.std.proofs.Common.{refl}
use Rattle.nntp_store.proofs.SplitLines.{first_segment}
use Rattle.nntp_store.proofs.text.fields.number_and_id.Goals as goal

pub returns-in-Some-rest : goal.returns-in-Some-rest
returns-in-Some-rest c =
    let third = first_segment 32 c.in-Some-rest.field-0.now in
    rw (c.cut.ensures, c.in-Some.is, c.cut-2.ensures, c.in-Some-rest.is, third.2) refl
