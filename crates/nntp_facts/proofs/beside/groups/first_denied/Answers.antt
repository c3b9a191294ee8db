use Rattle.nntp_facts.proofs.Base.{arith, true≢false, or_left, list_any, denies_group, same_itself, cases_Bool}
use Rattle.nntp_facts.proofs.beside.groups.first_denied.Goals as goal

pub returns-then-not-may_be : goal.returns-then-not-may_be
returns-then-not-may_be g c facts kept together =
    let name = c.in-Some.line.name in
    grind (arith, or_left, same_itself name, c.loop-line.invariant.2 name, cases_Bool (list_any (denies_group name) facts), c.may_be.ensures facts kept together, true≢false)
