use Rattle.std.{proofs.{Common.{MatchOption, refl, sym, subst, drop, arith}, lemmas.Grind.{common_steps}}, specs.Prelude.{⊤}}
use Rattle.nntp_wire.specs.{Frame.{HasFrame}, Inner.Search.{IsFrameThrough}, Session.{taken}}
use Rattle.nntp_pair.specs.{Pairing.{Awaits, IsAnswered, IsMalformed, asked_at, Place}, Inner.{Feeding.{IsPeek}, Searching.{left_from, IsForNext}}}
use Rattle.nntp_pair.{specs.declared.class.PairClass.TheVariants.{Malformed}, proofs.{PairLemmas.{malformed}, FeedLemmas.{nothing, begins-awaits, for-next}}}
use Rattle.nntp_pair.proofs.FeedLemmas.{next-of, malformed-for_good, nothing-awaited}
use Rattle.nntp_pair.specs.declared.peek.Peek.TheVariants as peek
use Rattle.nntp_pair.proofs.feed.Feed.peek.Goals as goal

pub returns-in_default-frame : goal.returns-in_default-frame
returns-in_default-frame g c =
    let left = left_from c.self.inside.index c.self.inside.is_closed (taken c.self.inside.overviews c.self.inside.client) c.self.inside.server in
    let none = subst (λ f. MatchOption f ((place : Place) → ¬ (Awaits left place)) (IsFrameThrough left.server)) c.in_default-frame.is c.self.invariant.through.frame in
    let both = nothing left c.if-self-2.false (λ place awaits. absurd (none place awaits)) in
    subst (λ fed. IsPeek fed peek.Nothing) c.self.view_is (c.if-self.false, both.0, both.1)

pub returns-in_default-frame-2 : goal.returns-in_default-frame-2
returns-in_default-frame-2 g c =
    let left = left_from c.self.inside.index c.self.inside.is_closed (taken c.self.inside.overviews c.self.inside.client) c.self.inside.server in
    let is = subst (λ f. MatchOption f ⊤ (IsForNext left)) c.in-Some-frame.is c.self.invariant.searched.frame in
    let both = nothing left c.if-self-2.false
    (λ place awaits initial block rest has. c.in_default-frame-2.ensures.none (asked_at place) initial block rest (for-next left c.in-Some-frame.search place is awaits)
    (subst (λ t. HasFrame (asked_at place) t initial block rest) (sym c.as_slice-server.ensures) has)) in
    subst (λ fed. IsPeek fed peek.Nothing) c.self.view_is (c.if-self.false, both.0, both.1)

pub new-requires-clause-frame : goal.new-requires-clause-frame
new-requires-clause-frame g c =
    let left = left_from c.self.inside.index c.self.inside.is_closed (taken c.self.inside.overviews c.self.inside.client) c.self.inside.server in
    let place = c.in-Some.place in
    let is = subst (λ f. MatchOption f ⊤ (IsForNext left)) c.in-Some-frame.is c.self.invariant.searched.frame in
    let begins = rw c.as_slice-client.ensures at c.in-Some.ensures in
    let awaits = begins-awaits c.self.inside.index c.self.inside.is_closed (taken c.self.inside.overviews c.self.inside.client) c.self.inside.server place c.in-Some.field-0-1.now c.if-self-2.false
    begins in
    c.in-Some-frame-2.ensures.found (asked_at place) (for-next left c.in-Some-frame.search place is awaits)

pub returns : goal.returns
returns g c =
    let left = left_from c.self.inside.index c.self.inside.is_closed (taken c.self.inside.overviews c.self.inside.client) c.self.inside.server in
    let place = c.in-Some.place in
    let begins = rw c.as_slice-client.ensures at c.in-Some.ensures in
    let awaits = begins-awaits c.self.inside.index c.self.inside.is_closed (taken c.self.inside.overviews c.self.inside.client) c.self.inside.server place c.in-Some.field-0-1.now c.if-self-2.false
    begins in
    let rest = drop c.in-Some-frame-2.frame.len c.as_slice-server.result.now in
    let exchange = c.new.result in
    let answered = subst (λ t. IsAnswered place t exchange.initial exchange.response rest) c.as_slice-server.ensures c.new.ensures.answered in
    let next = next-of left place exchange rest awaits c.new.ensures.index c.new.ensures.place answered in
    subst (λ fed. IsPeek fed (peek.Whole exchange)) c.self.view_is (c.if-self.false, next.0, next.1)

pub returns-in_default-parse : goal.returns-in_default-parse
returns-in_default-parse g c =
    let left = left_from c.self.inside.index c.self.inside.is_closed (taken c.self.inside.overviews c.self.inside.client) c.self.inside.server in
    let place = c.in-Some.place in
    let begins = rw c.as_slice-client.ensures at c.in-Some.ensures in
    let awaits = begins-awaits c.self.inside.index c.self.inside.is_closed (taken c.self.inside.overviews c.self.inside.client) c.self.inside.server place c.in-Some.field-0-1.now c.if-self-2.false
    begins in
    let frame = c.in-Some-frame-2.frame in
    let is = subst (λ f. MatchOption f ⊤ (IsForNext left)) c.in-Some-frame.is c.self.invariant.searched.frame in
    let has = c.in-Some-frame-2.ensures.found (asked_at place) (for-next left c.in-Some-frame.search place is awaits) in
    let bad = malformed place c.as_slice-server.result.now frame.initial frame.block (drop frame.len c.as_slice-server.result.now) (asked_at place) refl has
    (λ r. rw (← c.prompt-prompt.ensures) (c.in_default-parse.ensures r)) in
    let why = subst (λ t. IsMalformed (asked_at place) t) c.as_slice-server.ensures bad in
    subst (λ fed. IsPeek fed (peek.Bad c.self.inside.index Malformed)) c.self.view_is (c.if-self.false, refl, malformed-for_good left place awaits why)

pub returns-in-false : goal.returns-in-false
returns-in-false g c = grind (arith, common_steps)

pub returns-in-true : goal.returns-in-true
returns-in-true g c = grind (arith, common_steps)

pub returns-in_default : goal.returns-in_default
returns-in_default g c =
    let left = left_from c.self.inside.index c.self.inside.is_closed (taken c.self.inside.overviews c.self.inside.client) c.self.inside.server in
    let none = rw c.as_slice-client.ensures at c.in_default.ensures in
    let both = nothing-awaited left c.if-self-2.false none in
    subst (λ fed. IsPeek fed peek.Nothing) c.self.view_is (c.if-self.false, both.0, both.1)
