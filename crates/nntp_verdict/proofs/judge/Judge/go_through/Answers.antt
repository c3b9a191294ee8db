use Rattle.std.proofs.Common.{◌∙◌, [], ap, sym, subst}
use Rattle.nntp_article.specs.Session.Limit.{profile_of}
use Rattle.nntp_pair.specs.Pairing.{Unpaired, line_ahead, streams}
use Rattle.nntp_printing.specs.BadAnswer.{IsFirstLine}
use Rattle.nntp_several.specs.Sessions.{Recorded}
use Rattle.nntp_verdict.proofs.JudgeLemmas.{is-due, passes, refuses}
use Rattle.nntp_verdict.proofs.judge.Judge.go_through.Goals as goal

pub loop-exchange-init : goal.loop-exchange-init
loop-exchange-init g c = λ limit marks before e. record {
  passed = record {
    earlier = e.earlier;
    ended = e.ended;
    pairs = [];
    next = sym (c.taking-pairs.ensures ∙ ap (λ (s : Recorded). streams s.client s.server) c.session.view_is);
    stands = e.stands;
  };
  answers_are = e.answers_are;
}

pub note-requires : goal.note-requires
note-requires g c = is-due (profile_of c.requires.0 c.requires.1) c.requires.2 c.args.session.now c.loop-exchange.self.facts c.loop-exchange.self.answers.items
    c.loop-exchange.pairs c.next.new.self c.in-Exchange.exchange (c.loop-exchange.invariant c.requires.0 c.requires.1 c.requires.2 c.requires.3) c.in-Exchange.ensures.step

pub returns-in-Some : goal.returns-in-Some
returns-in-Some g c = λ limit marks before e.
    refuses _ c.in-Some.verdict _ _ c.in-Some.is
    (c.in_ok-verdict-in-Exchange.ensures.judged limit marks before c.args.session.now
    c.loop-exchange.pairs c.next.new.self (c.loop-exchange.invariant limit marks before e) c.in-Exchange.ensures.step)

pub loop-exchange-preserved : goal.loop-exchange-preserved
loop-exchange-preserved g c = λ limit marks before e.
    (passes _ _ _ c.in_default.is
    (c.in_ok-verdict-in-Exchange.ensures.judged limit marks before c.args.session.now
    c.loop-exchange.pairs c.next.new.self (c.loop-exchange.invariant limit marks before e) c.in-Exchange.ensures.step)).0

pub returns-in-Bad : goal.returns-in-Bad
returns-in-Bad g c = λ limit marks before e.
    let ends = c.in-Bad.ensures.step in
    c.in_ok-stopped-in-Bad.ensures.verdict limit marks before c.args.session.now c.loop-exchange.pairs (c.loop-exchange.invariant limit marks before e) (record {
      ends = ends.1;
      index_is = ends.0;
      line_is = c.ahead.ensures.line ∙ ap (λ (p : Unpaired). line_ahead p.places) ends.2;
      first = λ first is. subst (λ o. IsFirstLine o first) (c.ahead.ensures.rest ∙ ap (λ (p : Unpaired). p.server) ends.2) is;
    })

pub returns-in-End : goal.returns-in-End
returns-in-End g c = λ limit marks before e.
    c.in_ok-ended-in-End.ensures limit marks before c.args.session.now c.loop-exchange.pairs c.in-End.unanswered (c.loop-exchange.invariant limit marks before e)
    (c.index.ensures.value ∙ ap (λ (p : Unpaired). p.index) c.in-End.ensures.step.1) c.in-End.ensures.step.0
