use Rattle.nntp_check.{proofs.ShowLemmas.{one-more}, specs.Capture.{session_as}}
use Rattle.nntp_verdict.proofs.CheckerLemmas.{no-next}
use Rattle.nntp_wire.specs.declared.overviews.Overviews.TheVariants.{Opaque}
use Rattle.nntp_check.proofs.session_printer.SessionPrinter.show_whole.Goals as goal

pub loop-exchange-preserved : goal.loop-exchange-preserved
loop-exchange-preserved g c held start =
    let fed = c.loop-exchange.self.feed in
    let shows = c.loop-exchange.invariant held start in
    let session = (session_as Opaque held.last).session in
    record {
      ended = shows.ended;
      name_is = shows.name_is;
      last = one-more fed c.advance.new.self c.loop-exchange.self.text.items c.put_exchange.new.text.items c.in-Whole.exchange
          c.in-Whole.ensures.1 session shows.last c.in-Whole.ensures.2
          (λ pairs fed_is. c.advance.ensures.fed session.client session.server pairs c.in-Whole.exchange c.in-Whole.ensures.1 fed_is c.in-Whole.ensures.2) c.advance.ensures.has_failed
          c.in_ok-put_exchange.ensures;
    }

pub returns : goal.returns
returns g c held start =
    let shows = c.loop-exchange.invariant held start in
    (shows, no-next c.loop-exchange.self.feed c.peek.result c.peek.ensures shows.last.works c.in_default.not-Whole)
