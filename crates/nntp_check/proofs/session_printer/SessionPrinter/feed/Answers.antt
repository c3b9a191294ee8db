use Rattle.nntp_pair.specs.declared.side.Side.TheVariants.{Client, Server}
use Rattle.nntp_verdict.proofs.CheckerLemmas.{on-ok, if-err}
use Rattle.nntp_check.{proofs.ShowLemmas.{shown-more, untaken-memory}, specs.Capture.{session_as}}
use Rattle.nntp_wire.specs.declared.overviews.Overviews.TheVariants.{Opaque}
use Rattle.nntp_check.proofs.session_printer.SessionPrinter.feed.Goals as goal

pub returns-in-Client-clause-ok : goal.returns-in-Client-clause-ok
returns-in-Client-clause-ok g c = rw c.in-Client.is
    (on-ok _ c.feed_client.result c.feed_client.ensures
    (λ taken held shows. record { ended = shows.ended; name_is = shows.name_is; last = shown-more _ _ Client c.args.octets.now _ (session_as Opaque held.last).session taken shows.last }))

pub returns-in-Client-clause-err : goal.returns-in-Client-clause-err
returns-in-Client-clause-err g c = search (if-err, untaken-memory)

pub returns-in-Server-clause-ok : goal.returns-in-Server-clause-ok
returns-in-Server-clause-ok g c = rw c.in-Server.is
    (on-ok _ c.feed_server.result c.feed_server.ensures
    (λ taken held shows. record { ended = shows.ended; name_is = shows.name_is; last = shown-more _ _ Server c.args.octets.now _ (session_as Opaque held.last).session taken shows.last }))

pub returns-in-Server-clause-err : goal.returns-in-Server-clause-err
returns-in-Server-clause-err g c = search (if-err, untaken-memory)
