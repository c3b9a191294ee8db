use Rattle.nntp_facts.proofs.{Base.{◌+◌, [], true, false, map, take, profile_of, stands_of}, Keeping.CoresFound.{nothing_together, bad_told, more_conflict}}
use Rattle.nntp_facts.proofs.Keeping.CoresFound.{next_told, next_conflict}
use Rattle.nntp_facts.proofs.conflict.tell_all.Goals as goal

pub returns-then-not-branch : goal.returns-then-not-branch
returns-then-not-branch g c none fits =
    let profile = profile_of c.args.limit c.args.marks in
    let bad = stands_of c.args.bad.now in
    let answers = map stands_of c.args.answers.now in
    let first = c.in_ok-tell.ensures [] none (nothing_together profile) fits.0 in
    more_conflict profile bad answers [] c.args.places.now (λ k i. absurd i) (bad_told profile bad answers c.tell.new.kept false (rw c.if-not-branch.true at first))

pub loop-place-init : goal.loop-place-init
loop-place-init g c none fits =
    let first = c.in_ok-tell.ensures [] none (nothing_together (profile_of c.args.limit c.args.marks)) fits.0 in
    bad_told _ _ _ c.tell.new.kept true (rw c.if-not-branch.false at first)

pub returns-then-not-branch-2 : goal.returns-then-not-branch-2
returns-then-not-branch-2 g c none fits =
    let profile = profile_of c.args.limit c.args.marks in
    let bad = stands_of c.args.bad.now in
    let answers = map stands_of c.args.answers.now in
    let places = c.args.places.now in
    let i = c.loop-place.place-index in
    let next = c.in_ok-tell_at.ensures bad (take i places) fits.1 (c.loop-place.invariant none fits) in
    next_conflict profile bad answers places (i + 1) (next_told profile bad answers places i c.tell_at.new.kept false c.loop-place-test.true (rw c.if-not-branch-2.true at next))

pub loop-place-preserved : goal.loop-place-preserved
loop-place-preserved g c none fits =
    let i = c.loop-place.place-index in
    let next = c.in_ok-tell_at.ensures (stands_of c.args.bad.now) (take i c.args.places.now) fits.1 (c.loop-place.invariant none fits) in
    next_told _ _ _ c.args.places.now i c.tell_at.new.kept true c.loop-place-test.true (rw c.if-not-branch-2.false at next)
