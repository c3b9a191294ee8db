use Rattle.std.{proofs.{Common.{◌∙◌, ◌+◌, ◌*◌, ◌≤◌, length, drop, MatchOption, refl, sym, ap, subst, arith}, lemmas.Grind.{common_steps}}, specs.Prelude.{⊤}}
use Rattle.std.specs.Prelude.{nat_lt}
use Rattle.nntp_wire.specs.{Answer.{Response, Spells}, Frame.{frame_octets}, Session.{taken}}
use Rattle.nntp_pair.specs.{Pairing.{IsNext, asked_at, HasNext}, Inner.{Feeding.{Fed, IsFed, left_of}, Searching.{left_from, BeginsWithPlace, IsForNext}}}
use Rattle.nntp_pair.proofs.FeedLemmas.{search-there, in-step, behind-place, next-frame, frame-shorter, next-behind, next-here, fed-push, frame-fits}
use Rattle.nntp_pair.proofs.feed.Feed.advance.Goals as goal

pub unreachable-requires-in_default-frame : goal.unreachable-requires-in_default-frame
unreachable-requires-in_default-frame g c =
    let left = left_from c.self.inside.index c.self.inside.is_closed (taken c.self.inside.overviews c.self.inside.client) c.self.inside.server in
    let next = subst (λ fed. HasNext (left_of fed)) (sym c.self.view_is) c.requires in
    search-there left c.self.inside.searches.frame c.in_default-frame.is c.self.invariant.through.frame next

pub invariant_of-self : goal.invariant_of-self
invariant_of-self g c =
    let i = c.self.inside in
    let place = c.in-Some.field-0-0 in
    let frame = c.in-Some-frame-2.frame in
    let left = left_from i.index i.is_closed (taken i.overviews i.client) i.server in
    let came = rw c.as_slice-client.ensures at c.in-Some.ensures in
    let begins = subst (BeginsWithPlace (nat_lt 0 i.index) (taken i.overviews i.client) place)
    (sym (c.pass.ensures ∙ behind-place (nat_lt 0 i.index) (taken i.overviews i.client) c.as_slice-client.result.now place c.in-Some.rest.now
    c.as_slice-client.ensures came)) came in
    let is = subst (λ f. MatchOption f ⊤ (IsForNext left)) c.in-Some-frame.is c.self.invariant.searched.frame in
    let next = subst (λ fed. HasNext (left_of fed)) (sym c.self.view_is) c.requires in
    let has = next-frame i.index i.is_closed (taken i.overviews i.client) i.server c.as_slice-server.result.now c.pass.new.self c.pass-2.new.self place c.in-Some-frame.search frame.initial
    frame.block frame.len
    next.2.is_open begins is c.as_slice-server.ensures (c.pass-2.ensures ∙ ap (λ n. drop n i.server) c.len-frame_len.ensures.value) c.in-Some-frame-2.ensures.found in
    let short = frame-shorter place i.server frame.initial frame.block c.pass-2.new.self has.1 in
    let before = c.self.invariant.counted in
    let counted : 2 * (i.index + 1) + length c.pass-2.new.self ≤ i.counts.server = omega arith in
    in-step (i.index + 1) c.closes-self-inside.result (taken i.overviews c.as_slice-client-2.result.now) (taken i.overviews c.pass.new.self)
    c.as_slice-server-2.result.now c.pass-2.new.self i.counts.server c.new-self-inside.result (ap (taken i.overviews) c.as_slice-client-2.ensures)
    c.as_slice-server-2.ensures counted c.self.invariant.small c.new-self-inside.ensures.searched c.new-self-inside.ensures.through

pub returns-clause-next : goal.returns-clause-next
returns-clause-next g c =
    let i = c.self.inside in
    let place = c.in-Some.field-0-0 in
    let frame = c.in-Some-frame-2.frame in
    let left = left_from i.index i.is_closed (taken i.overviews i.client) i.server in
    let came = rw c.as_slice-client.ensures at c.in-Some.ensures in
    let begins = subst (BeginsWithPlace (nat_lt 0 i.index) (taken i.overviews i.client) place)
    (sym (c.pass.ensures ∙ behind-place (nat_lt 0 i.index) (taken i.overviews i.client) c.as_slice-client.result.now place c.in-Some.rest.now
    c.as_slice-client.ensures came)) came in
    let is = subst (λ f. MatchOption f ⊤ (IsForNext left)) c.in-Some-frame.is c.self.invariant.searched.frame in
    let next = subst (λ fed. HasNext (left_of fed)) (sym c.self.view_is) c.requires in
    let has = next-frame i.index i.is_closed (taken i.overviews i.client) i.server c.as_slice-server.result.now c.pass.new.self c.pass-2.new.self place c.in-Some-frame.search frame.initial
    frame.block frame.len
    next.2.is_open begins is c.as_slice-server.ensures (c.pass-2.ensures ∙ ap (λ n. drop n i.server) c.len-frame_len.ensures.value) c.in-Some-frame-2.ensures.found in
    let closing = λ (response : Response) (spells : Spells (asked_at place) response (frame_octets frame.initial frame.block)).
    c.closes-self-inside.ensures (asked_at place) response (has.0 ∙ sym c.kind.ensures) spells in
    let more = next-behind i.index i.is_closed c.closes-self-inside.result (taken i.overviews i.client) i.server c.pass.new.self c.pass-2.new.self
    frame.initial frame.block place next.0 next.1 next.2 begins has.1 closing in
    let here = next-here i.index i.is_closed c.closes-self-inside.result (taken i.overviews i.client) i.server c.pass.new.self c.pass-2.new.self next.0 more in
    (next.0, subst (λ fed. IsNext (left_of fed) next.0 (left_from (i.index + 1) c.closes-self-inside.result (taken i.overviews c.pass.new.self) c.pass-2.new.self)) c.self.view_is here)

pub returns-clause-fed : goal.returns-clause-fed
returns-clause-fed g c = λ client server pairs pair behind fed after.
    let i = c.self.inside in
    let place = c.in-Some.field-0-0 in
    let frame = c.in-Some-frame-2.frame in
    let left = left_from i.index i.is_closed (taken i.overviews i.client) i.server in
    let came = rw c.as_slice-client.ensures at c.in-Some.ensures in
    let begins = subst (BeginsWithPlace (nat_lt 0 i.index) (taken i.overviews i.client) place)
    (sym (c.pass.ensures ∙ behind-place (nat_lt 0 i.index) (taken i.overviews i.client) c.as_slice-client.result.now place c.in-Some.rest.now
    c.as_slice-client.ensures came)) came in
    let is = subst (λ f. MatchOption f ⊤ (IsForNext left)) c.in-Some-frame.is c.self.invariant.searched.frame in
    let next = subst (λ fed. HasNext (left_of fed)) (sym c.self.view_is) c.requires in
    let has = next-frame i.index i.is_closed (taken i.overviews i.client) i.server c.as_slice-server.result.now c.pass.new.self c.pass-2.new.self place c.in-Some-frame.search frame.initial
    frame.block frame.len
    next.2.is_open begins is c.as_slice-server.ensures (c.pass-2.ensures ∙ ap (λ n. drop n i.server) c.len-frame_len.ensures.value) c.in-Some-frame-2.ensures.found in
    let closing = λ (response : Response) (spells : Spells (asked_at place) response (frame_octets frame.initial frame.block)).
    c.closes-self-inside.ensures (asked_at place) response (has.0 ∙ sym c.kind.ensures) spells in
    let came_before = subst (λ f. IsFed f client server pairs) (sym c.self.view_is) fed in
    let follows = subst (λ f. IsNext (left_of f) pair behind) (sym c.self.view_is) after in
    let more = next-behind i.index i.is_closed c.closes-self-inside.result (taken i.overviews i.client) i.server c.pass.new.self c.pass-2.new.self
    frame.initial frame.block place pair behind follows begins has.1 closing in
    fed-push _ _ client server pairs pair came_before more refl

pub returns-clause-counts : goal.returns-clause-counts
returns-clause-counts g c = ap (λ (f : Fed). f.counts) c.self.view_is

pub returns-clause-has_failed : goal.returns-clause-has_failed
returns-clause-has_failed g c = ap (λ (f : Fed). f.has_failed) c.self.view_is

pub overflow_sub-line_len : goal.overflow_sub-line_len
overflow_sub-line_len g c = grind (arith, common_steps)

pub pass-requires-2 : goal.pass-requires-2
pass-requires-2 g c =
    let i = c.self.inside in
    let left = left_from i.index i.is_closed (taken i.overviews i.client) i.server in
    let is = subst (λ f. MatchOption f ⊤ (IsForNext left)) c.in-Some-frame.is c.self.invariant.searched.frame in
    frame-fits left c.in-Some-frame.search c.as_slice-server.result.now i.server c.in-Some-frame-2.frame c.len-frame_len.result is
    c.as_slice-server.ensures c.in-Some-frame-2.ensures.found c.len-frame_len.ensures.value c.len-frame_len.ensures.is_frame
