use Rattle.nntp_pair.specs.declared.side.Side.TheVariants.{Client, Server}
use Rattle.nntp_verdict.proofs.CheckerLemmas.{if-err, on-ok, untaken-memory}
use Rattle.nntp_check.specs.Capture.{session_as}
use Rattle.nntp_check.proofs.capture_checker.CaptureCheckerSink.take.Goals as goal

pub returns-in-Client-clause-ok : goal.returns-in-Client-clause-ok
returns-in-Client-clause-ok g c = rw c.in-Client.is
    (on-ok _ c.feed_client.result c.feed_client.ensures
    (λ taken by held judges. record { checks = taken.stands by.0 by.1 _ (session_as by.2 held.last).session judges.checks; names = judges.names; last_name = judges.last_name }))

pub returns-in-Client-clause-err : goal.returns-in-Client-clause-err
returns-in-Client-clause-err g c =
    let by = c.requires.0 in
    let held = c.requires.1.0 in
    if-err _ _ _ c.feed_client.result c.feed_client.ensures
    (λ error untaken. untaken-memory error Client c.args.octets.now _ _ by.0 by.1 _ (session_as by.2 held.last).session c.requires.1.1.checks c.requires.1.2 untaken)

pub returns-in-Server-clause-ok : goal.returns-in-Server-clause-ok
returns-in-Server-clause-ok g c = rw c.in-Server.is
    (on-ok _ c.feed_server.result c.feed_server.ensures
    (λ taken by held judges. record { checks = taken.stands by.0 by.1 _ (session_as by.2 held.last).session judges.checks; names = judges.names; last_name = judges.last_name }))

pub returns-in-Server-clause-err : goal.returns-in-Server-clause-err
returns-in-Server-clause-err g c =
    let by = c.requires.0 in
    let held = c.requires.1.0 in
    if-err _ _ _ c.feed_server.result c.feed_server.ensures
    (λ error untaken. untaken-memory error Server c.args.octets.now _ _ by.0 by.1 _ (session_as by.2 held.last).session c.requires.1.1.checks c.requires.1.2 untaken)
