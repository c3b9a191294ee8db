use Rattle.nntp_facts.proofs.{Base.{◌^◌, ◌<◌, List, length, map, arith, rules, ap, length-map, profile_of, core_start, stands_of}, Keeping.CoresFound.{alone}}
use Rattle.nntp_facts.{proofs.Keeping.CoresFound.{some_left, whole_found, end_found, kept_told, none_kept}, specs.declared.placed.Placed.{Placed}}
use Rattle.nntp_facts.proofs.conflict.Core.find.Goals as goal

-- as many stand there as there are
few : (answers : List Placed) → length answers < 2 ^ 64 → length (map stands_of answers) < 2 ^ 64
few answers short = let same = length-map answers stands_of in omega (arith, same, short)

pub loop-places-init : goal.loop-places-init
loop-places-init g c =
    let start = core_start (profile_of c.args.limit c.args.marks) (stands_of c.args.bad.now) (map stands_of c.args.answers.now) c.requires.conflict in
    grind (arith, start, length-map c.args.answers.now stands_of)

pub returns-then-len-most-clause-found : goal.returns-then-len-most-clause-found
returns-then-len-most-clause-found g c =
    let fit = c.requires.fit in
    let now = c.loop-places.invariant in
    let short = few c.args.answers.now (search rules) in
    let told = kept_told _ _ _ c.in_ok-kept.field-0 c.in-Some.kept c.deref.result.now _ c.in-Some.is c.deref.ensures.value (c.in_ok-kept.ensures fit) in
    end_found _ _ _ fit.0 fit.1 _ _ now.1 short now.0 (alone _ _ _ fit.0 fit.1 _ _ now.1 short now.0 c.in-Some.kept told)

pub search_refused-requires : goal.search_refused-requires
search_refused-requires g c =
    let fit = c.requires.fit in
    let now = c.loop-places.invariant in
    let told = kept_told _ _ _ c.in_ok-kept.field-0 c.in-Some.kept c.deref.result.now _ c.in-Some.is c.deref.ensures.value (c.in_ok-kept.ensures fit) in
    some_left _ _ _ fit.0 fit.1 _ _ now.1 (few c.args.answers.now (search rules)) now.0 c.in-Some.kept told

pub returns-clause-found : goal.returns-clause-found
returns-clause-found g c =
    let fit = c.requires.fit in
    let now = c.loop-places.invariant in
    let profile = profile_of c.args.limit c.args.marks in
    let bad = stands_of c.args.bad.now in
    let answers = map stands_of c.args.answers.now in
    let places = c.loop-places.places.items in
    whole_found profile bad answers fit.0 fit.1 c.loop-places.bound places now.1 (few c.args.answers.now (search rules)) now.0
    (none_kept profile bad answers c.in_ok-kept.field-0 c.deref.result.now places c.in_default.not-Some c.deref.ensures.value (c.in_ok-kept.ensures fit))

pub loop-places-preserved : goal.loop-places-preserved
loop-places-preserved g c =
    let fit = c.requires.fit in
    let now = c.loop-places.invariant in
    let places = c.loop-places.places.items in
    let told = kept_told _ _ _ c.in_ok-kept.field-0 c.in-Some.kept c.deref.result.now places c.in-Some.is c.deref.ensures.value (c.in_ok-kept.ensures fit) in
    let part = c.in_ok-bound.ensures.found (stands_of c.args.bad.now) places fit told now.1 (few c.args.answers.now (search rules)) now.0 in
    let one_more = ap length c.in_ok-insert.ensures.items in (
      rw c.in_ok-insert.ensures.items part,
      omega (arith, c.in_ok-bound.ensures.below, now.1),
      omega (arith, one_more, now.2, c.len.ensures, c.if-len-most.false),
    )
