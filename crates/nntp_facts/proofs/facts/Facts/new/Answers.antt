use Rattle.nntp_facts.proofs.Base.{[], arith, profile_of, none_permitted, permits_alone, exchanged}
use Rattle.nntp_facts.proofs.facts.Facts.new.Goals as goal

pub returns-clause-stands : goal.returns-clause-stands
returns-clause-stands g c =
    let profile = profile_of c.args.limit c.args.marks in
    let permitted = (permits_alone profile (exchanged [])).1 (none_permitted profile [] []) in
    grind (arith, permitted, c.new.ensures, c.new-2.ensures)
