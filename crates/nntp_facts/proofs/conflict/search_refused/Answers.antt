use Rattle.nntp_facts.proofs.{Base.{◌++◌, ◌≡◌, arith, ◌-◌, below}, Keeping.CoresFound.{below_told, place_found, last_found}}
use Rattle.nntp_facts.proofs.conflict.search_refused.Goals as goal

pub returns-then-not-branch-clause-found : goal.returns-then-not-branch-clause-found
returns-then-not-branch-clause-found g c bad places fits told within short part =
    let place = c.loop-place.place in
    let now = c.loop-place.invariant bad places fits.1 told in
    let next = c.in_ok-tell_at.ensures bad (places ++ below place) fits.1 now in
    place_found _ bad _ fits.0 fits.1 c.args.bound places within short part c.loop-place.kept place (omega (arith, c.loop-place-test.true, c.requires)) now (rw c.if-not-branch.true at next)

pub loop-place-preserved : goal.loop-place-preserved
loop-place-preserved g c bad places fits told =
    let place = c.loop-place.place in
    let next = c.in_ok-tell_at.ensures bad (places ++ below place) fits (c.loop-place.invariant bad places fits told) in
    below_told _ bad _ places place c.tell_at.new.kept (rw c.if-not-branch.false at next)

pub returns-clause-found : goal.returns-clause-found
returns-clause-found g c bad places fits told within short part =
    let last = c.args.bound - 1 in
    let end : c.loop-place.place ≡ last = omega (arith, c.loop-place-test.false, c.loop-place.auto.place-end) in
    last_found _ bad _ fits.0 fits.1 c.args.bound places within short part c.loop-place.kept last (omega (arith, c.requires)) (rw end at (c.loop-place.invariant bad places fits.1 told))
