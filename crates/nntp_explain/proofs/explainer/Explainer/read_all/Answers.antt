use Rattle.std.proofs.{Common.{arith, [], ◌<◌, ◌^◌, length, rules, subst}, lemmas.{Grind.{common_steps}, List.{take_all, length-take-le}}}
use Rattle.nntp_facts.specs.Inner.Noted.{profile_kept}
use Rattle.nntp_explain.{specs.Inner.ExplainingView.{kept_of, accepted_behind, HaveRead}, proofs.ReadSessions.{next_read}}
use Rattle.nntp_explain.proofs.explainer.Explainer.read_all.Goals as goal

pub read_named-requires : goal.read_named-requires
read_named-requires g c =
    let h = c.loop-named.invariant.read in
    let small : length c.args.sessions.now < 2 ^ 64 = search rules in
    record { number = grind (arith, length-take-le); few = h.few; kept = (profile_kept c.args.self.now.facts, accepted_behind [] h.readings, h.are_kept) }

pub loop-named-preserved : goal.loop-named-preserved
loop-named-preserved g c =
    let h = c.loop-named.invariant.read in
    let small : length c.args.sessions.now < 2 ^ 64 = search rules in
    let read = c.in_ok-lines.ensures (profile_kept c.args.self.now.facts) (accepted_behind [] h.readings) h.are_kept in
    record {
      read = next_read c.args.sessions.now c.loop-named.named-index h c.loop-named-test.true c.named-item.is small read c.from-unanswered.ensures;
      few = (let few = c.loop-named.invariant.few in let low : c.in_ok-lines.lines < 2 ^ 64 = search rules in let same = c.from-unanswered.ensures in omega (arith, few, low, same));
    }

pub returns : goal.returns
returns g c =
    subst (λ sessions. HaveRead (profile_kept c.args.self.now.facts) sessions (kept_of c.loop-named.self) c.loop-named.self.text.items c.loop-named.unanswered)
    (take_all c.loop-named.named-index c.args.sessions.now (search rules)) c.loop-named.invariant.read

pub loop-named-init : goal.loop-named-init
loop-named-init g c = grind (arith, common_steps)
