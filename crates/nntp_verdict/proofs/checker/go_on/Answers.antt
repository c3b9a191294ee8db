use Rattle.std.proofs.Common.{◌∙◌, refl, subst}
use Rattle.nntp_article.specs.Session.Limit.{profile_of}
use Rattle.nntp_pair.specs.Inner.Feeding.{EndsForGood, left_of, with_octets}
use Rattle.nntp_several.specs.Told.{with_more}
use Rattle.nntp_verdict.{specs.{Inner.Checking.{StandsForAll, decided}, Verdict.{sessions_verdict_shown}}, proofs.JudgeLemmas.{passes, refuses}}
use Rattle.nntp_verdict.proofs.{CheckerLemmas.{passed-now, passed-longer, next-due, keeps-one-more, decides, whole-for-good, no-next}, FedLemmas.{next-longer}}
use Rattle.nntp_verdict.proofs.{FedLemmas.{malformed-longer}, checker.go_on.Goals.{in_default-via-in-Bad+in_default, in_default-via-in_default}}
use Rattle.nntp_verdict.proofs.checker.go_on.Goals as goal

pub note-requires : goal.note-requires
note-requires g c =
    let told = c.in-Whole.ensures in
    let was = c.requires.kept in
    next-due (profile_of was.0 was.1) was.2 was.3 c.loop-exchange.judge.facts c.loop-exchange.judge.answers.items c.loop-exchange.feed
    (c.loop-exchange.invariant.kept was.0 was.1 was.2 was.3 was.4) c.in-Whole.exchange told.1 told.2

pub returns-in-Some : goal.returns-in-Some
returns-in-Some g c = λ limit marks before session kept.
    let next = c.in-Whole.ensures in
    let feed = c.loop-exchange.feed in
    let facts = c.loop-exchange.judge.facts in
    let answers = c.loop-exchange.judge.answers.items in
    let told = sessions_verdict_shown c.in-Some.verdict in
    let k = c.loop-exchange.invariant.kept limit marks before session kept in
    subst (λ n. StandsForAll limit marks (decided told n) before session) c.loop-exchange.invariant.counts
    (decides (profile_of limit marks) before session facts answers feed k limit marks told
    (whole-for-good before told (refuses _ c.in-Some.verdict _ _ c.in-Some.is c.in_ok-verdict.ensures.whole))
    (λ client server.
    let longer = next-longer feed client server c.in-Whole.exchange next.1 next.2 in
    refuses _ c.in-Some.verdict _ _ c.in-Some.is
    (c.in_ok-verdict.ensures.judged limit marks before (with_more session client server) (left_of (with_octets client server feed)) longer.0
    (passed-longer (profile_of limit marks) before session facts answers feed k client server) longer.1)))

pub loop-exchange-preserved : goal.loop-exchange-preserved
loop-exchange-preserved g c = record {
  kept = λ limit marks before session kept.
      let next = c.in-Whole.ensures in
      let feed = c.loop-exchange.feed in
      let facts = c.loop-exchange.judge.facts in
      let answers = c.loop-exchange.judge.answers.items in
      let k = c.loop-exchange.invariant.kept limit marks before session kept in
      let now = passes _ _ _ c.in_default-2.is
      (c.in_ok-verdict.ensures.judged limit marks before session (left_of feed) next.1 (passed-now (profile_of limit marks) before session facts answers feed k) next.2) in
      keeps-one-more (profile_of limit marks) before session facts answers feed k c.note.new.self.facts c.note.new.self.answers.items c.advance.new.self
      c.in-Whole.exchange next.1 next.2 now.0 now.1 c.advance.ensures.fed;
  whole = c.advance.ensures.has_failed ∙ c.loop-exchange.invariant.whole;
  counts = c.advance.ensures.counts ∙ c.loop-exchange.invariant.counts;
}

pub returns-in-Bad-default-Malformed : goal.returns-in-Bad-default-Malformed
returns-in-Bad-default-Malformed g c = λ limit marks before session kept.
    let bad = c.in-Bad-default-Malformed.ensures in
    let feed = c.loop-exchange.feed in
    let facts = c.loop-exchange.judge.facts in
    let answers = c.loop-exchange.judge.answers.items in
    let told = sessions_verdict_shown c.in_ok-verdict-in-Bad-default-Malformed.verdict in
    let k = c.loop-exchange.invariant.kept limit marks before session kept in
    subst (λ n. StandsForAll limit marks (decided told n) before session) c.loop-exchange.invariant.counts
    (decides (profile_of limit marks) before session facts answers feed k limit marks told
    (whole-for-good before told c.in_ok-verdict-in-Bad-default-Malformed.ensures.whole)
    (λ client server.
    c.in_ok-verdict-in-Bad-default-Malformed.ensures.verdict limit marks before (with_more session client server) (left_of (with_octets client server feed))
    (passed-longer (profile_of limit marks) before session facts answers feed k client server)
    (malformed-longer feed client server c.in-Bad-default-Malformed.index _ _
    (subst (λ class. EndsForGood class (left_of feed)) c.in-Bad-default-Malformed.class-is bad.2)
    bad.1 c.ahead.ensures.line c.ahead.ensures.rest)))

pub returns-in_default : goal.returns-in_default
returns-in_default g c = λ limit marks before session kept.
    let whole = c.loop-exchange.invariant.whole in
    let none = no-next c.loop-exchange.feed c.peek.result c.peek.ensures whole in (
      record {
        keeps = c.loop-exchange.invariant.kept limit marks before session kept;
        all = elim c.in_default.branch [
          | in_default-via-in-Bad+in_default w ↦ none w.in_default.not-Whole
          | in_default-via-in_default w ↦ none w.in_default.not-Whole
        ];
      },
      whole,
    )

pub loop-exchange-init : goal.loop-exchange-init
loop-exchange-init g c = record { kept = λ limit marks before session kept. kept; whole = c.requires.whole; counts = refl }

pub advance-requires : goal.advance-requires
advance-requires g c = (c.in-Whole.exchange, c.in-Whole.ensures.1, c.in-Whole.ensures.2)
